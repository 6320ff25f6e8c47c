use Rattle.std.proofs.Common.{ap, sym, subst}
use Rattle.log_node.specs.declared.ids.Row.{Row}
use Rattle.log_node.specs.Seen.{BegunAppend}
use Rattle.stamp_board.specs.Rows.{IsRow}
use Rattle.stamp_board.specs.Views.{KnowsAll, KnowsOutcome}
use Rattle.stamp_board.proofs.CallerLemmas.{Learns-from, outcome_learnt}
use Rattle.chain_store.specs.Holds.{view_of}
use Rattle.append_core.specs.Helping.{IsStepIn}
use Rattle.chain_store.proofs.CallerLemmas.{later_then, append_later, goes_same, goes_then}
use Rattle.append_core.proofs.Marked.{all_known, marked_later}
use Rattle.append_core.proofs.helping.help.Goals as goal

pub decide-outcome-requires-clause-row : goal.decide-outcome-requires-clause-row
decide-outcome-requires-clause-row g c =
    subst (λ (b : BegunAppend). IsRow c.args.region.now.board.size b.row) (sym c.begun.view_is)
    c.requires.begun.knows.1.row

pub settle-requires-clause-begun : goal.settle-requires-clause-begun
settle-requires-clause-begun g c =
    let r = c.args.region.now in
    let b = c.args.begun.now in
    let m = c.mark.new.hold in
    let d = c.decide-outcome.new.hold in
    let same = goes_same (IsStepIn b) m d c.decide-outcome.ensures.same.0 in
    append_later r m d b c.decide-outcome.ensures.seat same.number
    (append_later r c.args.hold.now m b c.mark.ensures.seat c.mark.ensures.goes.number c.requires.begun)

pub settle-requires-clause-outcome : goal.settle-requires-clause-outcome
settle-requires-clause-outcome g c =
    let r = c.args.region.now in
    let b = c.args.begun.now in
    let m = c.mark.new.hold in
    let e = c.decide-outcome.ensures in
    let knows = append_later r c.args.hold.now m b c.mark.ensures.seat c.mark.ensures.goes.number c.requires.begun in
    let row = ap (λ (a : BegunAppend). a.row) c.begun.view_is in
    let closed = e.closed (subst (λ (w : Row). KnowsAll (view_of m) w) (sym row) (all_known r m b knows
    c.mark.ensures.marked)) in (
      closed,
      subst (λ (w : Row). KnowsOutcome (view_of c.decide-outcome.new.hold) w c.decide-outcome.result) row
          (e.known closed),
    )

pub settle-requires-clause-marked : goal.settle-requires-clause-marked
settle-requires-clause-marked g c = λ k it.
    let b = c.args.begun.now in
    let m = c.mark.new.hold in
    let d = c.decide-outcome.new.hold in
    marked_later (IsStepIn b) m d b (goes_same (IsStepIn b) m d c.decide-outcome.ensures.same.0)
    c.decide-outcome.ensures.seat.grows k (c.mark.ensures.marked k it)

pub returns-clause-seat : goal.returns-clause-seat
returns-clause-seat g c =
    let h = c.args.hold.now.seat in
    let m = c.mark.new.hold.seat in
    let d = c.decide-outcome.new.hold.seat in
    let s = c.settle.new.hold.seat in
    later_then h d s (later_then h m d c.mark.ensures.seat c.decide-outcome.ensures.seat) c.settle.ensures.seat

pub returns-clause-outcome : goal.returns-clause-outcome
returns-clause-outcome g c =
    let r = c.args.region.now in
    let b = c.args.begun.now in
    let m = c.mark.new.hold in
    let d = c.decide-outcome.new.hold in
    let e = c.decide-outcome.ensures in
    let s = c.settle.ensures.seat in
    let knows = append_later r c.args.hold.now m b c.mark.ensures.seat c.mark.ensures.goes.number c.requires.begun in
    let row = ap (λ (a : BegunAppend). a.row) c.begun.view_is in
    let closed = e.closed (subst (λ (w : Row). KnowsAll (view_of m) w) (sym row) (all_known r m b knows
    c.mark.ensures.marked)) in (
      closed,
      outcome_learnt (view_of d) (view_of c.settle.new.hold) b.row s.grows.size
          (Learns-from (view_of d) (view_of c.settle.new.hold) s.grows) c.decide-outcome.result
          (subst (λ (w : Row). KnowsOutcome (view_of d) w c.decide-outcome.result) row (e.known closed)),
      e.stamp,
    )

pub returns-clause-goes : goal.returns-clause-goes
returns-clause-goes g c =
    let b = c.args.begun.now in
    let h = c.args.hold.now in
    let m = c.mark.new.hold in
    let d = c.decide-outcome.new.hold in
    let s = c.settle.new.hold in
    goes_then (IsStepIn b) h d s
    (goes_then (IsStepIn b) h m d c.mark.ensures.goes (goes_same (IsStepIn b) m d c.decide-outcome.ensures.same.0))
    c.settle.ensures.goes
