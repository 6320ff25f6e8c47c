use Rattle.std.proofs.Common.{◌∙◌, ◌++◌, ap, append-nil, arith, sym}
use Rattle.run_rules.specs.Telling.{replies_to}
use Rattle.walk_law.specs.Finds.{decision_at}
use Rattle.object_law.proofs.GoingLemmas.{all_drafts, draft_list, drafts_begun, drafts_counted, drafts_few, drafts_on}
use Rattle.object_law.proofs.drafts.client_drafts.Goals as goal
use Rattle.object_law.proofs.drafts.client_drafts.Goals.{in-Some+in_ok-push, in_default}

pub loop-place-init : goal.loop-place-init
loop-place-init c =
    let walked = c.args.subject.now in
    let may = c.agrees.ensures.may in
    drafts_begun walked may.0 may.1 c.args.client c.requires (decision_at c.args.decisions.now) c.in_ok-going.going.keeping
    c.in_ok-going.going.places c.new-drafts.result c.new-drafts.ensures
    (λ found. c.in_ok-going.ensures.counts (replies_to walked.report c.args.client) found) c.in_ok-going.ensures.none

pub next-requires-clause-few : goal.next-requires-clause-few
next-requires-clause-few c =
    let walked = c.args.subject.now in
    let may = c.agrees.ensures.may in
    let count = c.count-place-end.ensures.count in
    let few = c.count-place-end.ensures.few in
    let less = c.loop-place-test.true in
    drafts_few walked may.0 may.1 c.args.client c.requires (decision_at c.args.decisions.now) c.loop-place.place
    (omega (arith, count, less)) c.loop-place.going.keeping c.loop-place.going.places c.loop-place.drafts c.loop-place.invariant
    (omega (arith, count, few))

pub next-requires-clause-counts : goal.next-requires-clause-counts
next-requires-clause-counts c =
    let walked = c.args.subject.now in
    let may = c.agrees.ensures.may in
    let count = c.count-place-end.ensures.count in
    let less = c.loop-place-test.true in
    drafts_counted walked may.0 may.1 c.args.client c.requires (decision_at c.args.decisions.now) c.loop-place.place
    (omega (arith, count, less)) c.loop-place.going.keeping c.loop-place.going.places c.loop-place.drafts c.loop-place.invariant

pub loop-place-preserved : goal.loop-place-preserved
loop-place-preserved c =
    let walked = c.args.subject.now in
    let may = c.agrees.ensures.may in
    let count = c.count-place-end.ensures.count in
    let less = c.loop-place-test.true in
    drafts_on walked may.0 may.1 c.args.client c.requires (decision_at c.args.decisions.now) c.loop-place.place
    (omega (arith, count, less)) c.loop-place.going.keeping c.loop-place.going.places c.loop-place.drafts c.loop-place.invariant
    c.in_ok-made.made c.next.new.self.keeping c.next.new.self.places c.in_ok-made.ensures.step c.in_ok-made.ensures.ids
    c.in_ok-made.ensures.rows c.match-made.drafts (elim c.match-made.branch [
      | in-Some+in_ok-push w ↦
          w.drafts-is ∙ (w.in_ok-push.ensures.ok ∙ ap (λ o. c.loop-place.drafts ++ draft_list o) (sym w.in-Some.is))
      | in_default w ↦
          w.drafts-is ∙ (sym (append-nil c.loop-place.drafts) ∙ ap (λ o. c.loop-place.drafts ++ draft_list o) (sym w.in_default.is))
    ])

pub returns : goal.returns
returns c =
    let walked = c.args.subject.now in
    let may = c.agrees.ensures.may in
    let count = c.count-place-end.ensures.count in
    let ge = c.loop-place-test.false in
    all_drafts walked may.0 may.1 c.args.client c.requires (decision_at c.args.decisions.now) c.loop-place.place
    (omega (arith, count, ge)) c.loop-place.going.keeping c.loop-place.going.places c.loop-place.drafts c.loop-place.invariant
