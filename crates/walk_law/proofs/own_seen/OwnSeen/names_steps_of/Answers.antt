use Rattle.std.proofs.Common.{◌∙◌, ap, arith, sym}
use Rattle.walk_law.specs.Fourth.{Sighted}
use Rattle.walk_law.proofs.FourthLemmas.{steps_first}
use Rattle.walk_law.proofs.RowSteps.{colour_low}
use Rattle.walk_law.proofs.SeenSteps.{mark_seen, mark_unseen, marks_end}
use Rattle.walk_law.proofs.own_seen.OwnSeen.names_steps_of.Goals as goal

pub loop-mark-init : goal.loop-mark-init
loop-mark-init c = steps_first c.args.subject.now c.args.count c.args.self.now c.args.behind.now

pub returns-then-not-are_unseen : goal.returns-then-not-are_unseen
returns-then-not-are_unseen c = λ kept after untold s t ids left_out.
    let may = c.agrees.ensures.may in
    let row = c.requires.row in
    mark_seen c.args.subject.now may.0 may.1 c.args.count c.args.self.now c.args.behind.now c.requires.client row.0 row.1
    c.args.marks.now row.2 c.loop-mark.mark-index _ c.loop-mark-test.true _ (ap (λ (o : Sighted). o.client) c.self.view_is)
    c.as_slice.result.now c.seen.result c.are_unseen.result (c.as_slice.ensures ∙ c.in_ok-steps.ensures) c.seen.ensures.table
    c.are_unseen.ensures c.if-not-are_unseen.true kept after untold s ids left_out

pub see_past-requires : goal.see_past-requires
see_past-requires c =
    let may = c.agrees.ensures.may in
    let row = c.requires.row in
    colour_low c.args.subject.now may.0 may.1 c.args.self.now.client c.requires.client c.args.count row.0 row.1 c.args.marks.now row.2
    c.loop-mark.mark-index _ c.loop-mark-test.true

pub loop-mark-preserved : goal.loop-mark-preserved
loop-mark-preserved c =
    let may = c.agrees.ensures.may in
    let row = c.requires.row in
    let past = c.see_past.ensures in
    mark_unseen c.args.subject.now may.0 may.1 c.args.count c.args.self.now c.args.behind.now c.requires.client row.0 row.1
    c.args.marks.now row.2 c.loop-mark.mark-index _ c.loop-mark-test.true _ (ap (λ (o : Sighted). o.client) c.self.view_is)
    c.as_slice.result.now c.seen.result c.are_unseen.result (c.as_slice.ensures ∙ c.in_ok-steps.ensures) c.seen.ensures.table
    c.are_unseen.ensures c.if-not-are_unseen.false c.loop-mark.behind c.see_past.new.self c.as_slice-in-loop-mark.result.now
    (c.as_slice-in-loop-mark.ensures ∙ sym c.as_slice.ensures) c.loop-mark.invariant past.client past.region past.known past.here
    past.others

pub returns : goal.returns
returns c = λ kept after untold s t ids left_out.
    let may = c.agrees.ensures.may in
    let row = c.requires.row in
    let ge = c.loop-mark-test.false in
    let le = c.loop-mark.auto.mark-index-end in
    marks_end c.args.subject.now may.0 may.1 c.args.count c.args.self.now c.args.behind.now c.requires.client row.0 row.1
    c.args.marks.now row.2 c.loop-mark.mark-index (omega (arith, ge, le)) c.loop-mark.behind c.loop-mark.invariant kept after untold s ids
    left_out t
