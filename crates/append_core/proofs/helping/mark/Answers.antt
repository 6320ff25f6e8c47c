use Rattle.std.proofs.Common.{ℕ, List, refl, ap, sym, subst, ◌∙◌}
use Rattle.log_node.specs.Seen.{BegunAppend}
use Rattle.log_node.specs.Sets.{members}
use Rattle.append_core.specs.Helping.{IsStepIn}
use Rattle.append_core.specs.Settled.{HoldKnowsMarked}
use Rattle.chain_store.proofs.CallerLemmas.{later_same, later_then, append_later, goes_same, goes_then}
use Rattle.append_core.proofs.ByMember.{AreDone, none_done, next_has, done_next, all_done}
use Rattle.append_core.proofs.Marked.{below_all, marked_later}
use Rattle.append_core.proofs.helping.mark.Goals as goal

pub loop-colour-init : goal.loop-colour-init
loop-colour-init g c =
    let h = c.args.hold.now in
    let b = c.args.begun.now in record {
      hold = c.requires.hold;
      seat = later_same h.seat;
      next = refl;
      goes = goes_same (IsStepIn b) h h refl;
      marked = subst (λ (left : List ℕ). AreDone (HoldKnowsMarked h b) left b.colours)
          (sym (c.into_iter-colour-iterator.ensures.into_iter_gives ∙ c.members-colour-items.ensures
          ∙ ap (λ (a : BegunAppend). members a.colours) c.begun.view_is)) (none_done (HoldKnowsMarked h b) b.colours);
    }

pub mark_colour-requires-clause-begun : goal.mark_colour-requires-clause-begun
mark_colour-requires-clause-begun g c =
    let i = c.loop-colour.invariant in
    append_later c.args.region.now c.args.hold.now c.loop-colour.hold c.args.begun.now i.seat i.goes.number
    c.requires.begun

pub mark_colour-requires-clause-colour : goal.mark_colour-requires-clause-colour
mark_colour-requires-clause-colour g c =
    let l = c.loop-colour in
    let b = c.args.begun.now in
    next_has (HoldKnowsMarked l.hold b) c.in-Some.colour c.next.new.self b.colours
    (subst (λ (left : List ℕ). AreDone (HoldKnowsMarked l.hold b) left b.colours) c.in-Some.ensures.steps l.invariant.marked)

pub loop-colour-preserved : goal.loop-colour-preserved
loop-colour-preserved g c =
    let l = c.loop-colour in
    let i = l.invariant in
    let b = c.args.begun.now in
    let e = c.mark_colour.ensures in
    let h = c.mark_colour.new.hold in record {
      hold = e.hold;
      seat = later_then c.args.hold.now.seat l.hold.seat h.seat i.seat e.seat;
      next = e.next ∙ i.next;
      goes = goes_then (IsStepIn b) c.args.hold.now l.hold h i.goes e.goes;
      marked = done_next (HoldKnowsMarked l.hold b) c.in-Some.colour c.next.new.self b.colours
          (subst (λ (left : List ℕ). AreDone (HoldKnowsMarked l.hold b) left b.colours) c.in-Some.ensures.steps i.marked)
          (HoldKnowsMarked h b) (λ k ne was. marked_later (IsStepIn b) l.hold h b e.goes e.seat.grows k was) e.marked;
    }

pub returns-clause-marked : goal.returns-clause-marked
returns-clause-marked g c = λ k it.
    let l = c.loop-colour in
    let b = c.args.begun.now in
    all_done (HoldKnowsMarked l.hold b) b.colours
    (subst (λ (left : List ℕ). AreDone (HoldKnowsMarked l.hold b) left b.colours) c.in-None.ensures.steps.0 l.invariant.marked)
    k (below_all c.args.region.now c.args.hold.now b c.requires.begun k it) it
