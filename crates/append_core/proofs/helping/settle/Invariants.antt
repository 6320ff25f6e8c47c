use Rattle.std.proofs.Common.{◌≡◌}
use Rattle.stamp_board.specs.Seats.{IsLater}
use Rattle.chain_store.specs.Holds.{IsHold}
use Rattle.chain_store.specs.Going.{GoesOn}
use Rattle.append_core.specs.Helping.{IsStepIn}
use Rattle.append_core.specs.Settled.{HoldKnowsSettled}
use Rattle.append_core.proofs.ByMember.{AreDone}
use Rattle.append_core.proofs.helping.settle.Given as goal

-- the append is settled in the first of its colours
abbrev pub invariant-loop-colour : goal.invariant-loop-colour
invariant-loop-colour g l = record {
  hold : IsHold l.region l.hold;
  seat : IsLater l.fn.hold.seat l.hold.seat;
  next : l.hold.next ≡ l.fn.hold.next;
  goes : GoesOn (IsStepIn l.begun) l.fn.hold l.hold;
  settled : AreDone (HoldKnowsSettled l.hold l.begun l.outcome) l.colour-iterator l.begun.colours;
}
