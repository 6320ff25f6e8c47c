use Rattle.std.proofs.Common.{refl, sym, ◌∙◌}
use Rattle.stamp_board.specs.Seats.{seen}
use Rattle.stamp_board.proofs.CallerLemmas.{Grows-trans, Learns-from, outcome_learnt}
use Rattle.chain_store.proofs.Beginning.{hold_learnt}
use Rattle.chain_store.proofs.Decided.{decided_as}
use Rattle.chain_store.proofs.Going.{later_then}
use Rattle.chain_store.proofs.region.Region.decide.Goals as goal

pub returns-clause-hold : goal.returns-clause-hold
returns-clause-hold c =
    hold_learnt c.args.self.now c.args.hold.now
    (record {
      passes = c.args.hold.now.passes;
      seat = c.last.new.seat;
      next = c.args.hold.now.next;
      desks =
          c.args.hold.now.desks;
    }) c.requires.hold
    refl refl refl
    (later_then c.args.hold.now.seat c.decide.new.seat c.last.new.seat c.decide.ensures.seat c.last.ensures.seat)

pub returns-clause-before : goal.returns-clause-before
returns-clause-before c = λ o known.
    let v = seen c.args.hold.now.seat in
    let w = seen c.decide.new.seat in
    let g = c.decide.ensures.seat.grows in
    c.last.ensures.before o (outcome_learnt v w c.args.row g.size (Learns-from v w g) o known)

pub returns-clause-closed : goal.returns-clause-closed
returns-clause-closed c = λ all e.
    let shut = c.decide.ensures.closed all in
    shut (sym (c.last.ensures.before c.decide.result (c.decide.ensures.known shut)) ∙ e)

pub returns-clause-marks : goal.returns-clause-marks
returns-clause-marks c = λ x mark begun knows.
    let v = seen c.args.hold.now.seat in
    let w = seen c.decide.new.seat in
    let u = seen c.last.new.seat in
    let shut = c.decide.ensures.closed (x, begun, λ k has_it. (mark k, knows k has_it)) in
    let same = c.last.ensures.before c.decide.result (c.decide.ensures.known shut) in
    decided_as c.args.self.now.board.size v u c.args.row c.last.result
    (Grows-trans v w u c.decide.ensures.seat.grows c.last.ensures.seat.grows) (λ e. shut (sym same ∙ e))
    c.last.ensures.value x begun mark knows
