use Rattle.std.proofs.Common.{ℕ, List, refl, ap, sym, subst, ◌∙◌}
use Rattle.log_node.specs.Seen.{BegunAppend}
use Rattle.log_node.specs.Sets.{members}
use Rattle.stamp_board.proofs.CallerLemmas.{Learns-from, outcome_learnt}
use Rattle.chain_store.specs.Holds.{view_of}
use Rattle.append_core.specs.Helping.{IsStepIn}
use Rattle.append_core.specs.Settled.{HoldKnowsSettled}
use Rattle.chain_store.proofs.CallerLemmas.{later_same, later_then, append_later, goes_same, goes_then}
use Rattle.append_core.proofs.ByMember.{AreDone, none_done, next_has, done_next, all_done}
use Rattle.append_core.proofs.Marked.{below_all, marked_later, settled_elsewhere}
use Rattle.append_core.proofs.helping.settle.Goals as goal

pub loop-colour-init : goal.loop-colour-init
loop-colour-init g c =
    let h = c.args.hold.now in
    let b = c.args.begun.now in
    let o = c.args.outcome in record {
      hold = c.requires.hold;
      seat = later_same h.seat;
      next = refl;
      goes = goes_same (IsStepIn b) h h refl;
      settled = subst (λ (left : List ℕ). AreDone (HoldKnowsSettled h b o) left b.colours)
          (sym (c.into_iter-colour-iterator.ensures.into_iter_gives ∙ c.members-colour-items.ensures
          ∙ ap (λ (a : BegunAppend). members a.colours) c.begun.view_is)) (none_done (HoldKnowsSettled h b o) b.colours);
    }

pub settle_colour-requires-clause-begun : goal.settle_colour-requires-clause-begun
settle_colour-requires-clause-begun g c =
    let i = c.loop-colour.invariant in
    append_later c.args.region.now c.args.hold.now c.loop-colour.hold c.args.begun.now i.seat i.goes.number
    c.requires.begun

pub settle_colour-requires-clause-outcome : goal.settle_colour-requires-clause-outcome
settle_colour-requires-clause-outcome g c =
    let v = view_of c.args.hold.now in
    let w = view_of c.loop-colour.hold in
    let s = c.loop-colour.invariant.seat in (
      c.requires.outcome.0,
      outcome_learnt v w c.args.begun.now.row s.grows.size (Learns-from v w s.grows) c.args.outcome c.requires.outcome.1,
    )

pub settle_colour-requires-clause-colour : goal.settle_colour-requires-clause-colour
settle_colour-requires-clause-colour g c =
    let l = c.loop-colour in
    let b = c.args.begun.now in
    let o = c.args.outcome in
    next_has (HoldKnowsSettled l.hold b o) c.in-Some.colour c.next.new.self b.colours
    (subst (λ (left : List ℕ). AreDone (HoldKnowsSettled l.hold b o) left b.colours) c.in-Some.ensures.steps
    l.invariant.settled)

pub settle_colour-requires-clause-marked : goal.settle_colour-requires-clause-marked
settle_colour-requires-clause-marked g c =
    let l = c.loop-colour in
    let i = l.invariant in
    let b = c.args.begun.now in
    let o = c.args.outcome in
    marked_later (IsStepIn b) c.args.hold.now l.hold b i.goes i.seat.grows c.in-Some.colour
    (c.requires.marked c.in-Some.colour
    (next_has (HoldKnowsSettled l.hold b o) c.in-Some.colour c.next.new.self b.colours
    (subst (λ (left : List ℕ). AreDone (HoldKnowsSettled l.hold b o) left b.colours) c.in-Some.ensures.steps i.settled)))

pub loop-colour-preserved : goal.loop-colour-preserved
loop-colour-preserved g c =
    let l = c.loop-colour in
    let i = l.invariant in
    let b = c.args.begun.now in
    let o = c.args.outcome in
    let e = c.settle_colour.ensures in
    let h = c.settle_colour.new.hold in record {
      hold = e.hold;
      seat = later_then c.args.hold.now.seat l.hold.seat h.seat i.seat e.seat;
      next = e.next ∙ i.next;
      goes = goes_then (IsStepIn b) c.args.hold.now l.hold h i.goes e.goes;
      settled = done_next (HoldKnowsSettled l.hold b o) c.in-Some.colour c.next.new.self b.colours
          (subst (λ (left : List ℕ). AreDone (HoldKnowsSettled l.hold b o) left b.colours) c.in-Some.ensures.steps i.settled)
          (HoldKnowsSettled h b o)
          (λ k ne was. settled_elsewhere l.hold h b o c.in-Some.colour k e.others e.seat.grows ne was) e.settled;
    }

pub returns-clause-settled : goal.returns-clause-settled
returns-clause-settled g c = λ k it.
    let l = c.loop-colour in
    let b = c.args.begun.now in
    let o = c.args.outcome in
    all_done (HoldKnowsSettled l.hold b o) b.colours
    (subst (λ (left : List ℕ). AreDone (HoldKnowsSettled l.hold b o) left b.colours) c.in-None.ensures.steps.0
    l.invariant.settled) k (below_all c.args.region.now c.args.hold.now b c.requires.begun k it) it
