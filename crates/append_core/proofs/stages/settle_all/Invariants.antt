use Rattle.std.proofs.Common.{◌≡◌, ◌+◌, length}
use Rattle.log_node.specs.declared.limits.TheConstants.{MAX_COLOURS}
use Rattle.log_node.specs.declared.node.Node.{Node}
use Rattle.stamp_board.specs.Seats.{IsLater}
use Rattle.chain_store.specs.declared.hold.Hold.{Hold}
use Rattle.chain_store.specs.Going.{GoesOn}
use Rattle.chain_store.specs.Holds.{IsHold}
use Rattle.append_core.specs.Helping.{IsStepIn}
use Rattle.append_core.specs.Several.{own_append}
use Rattle.append_core.specs.Inside.{AreSettled, HasDecided, IsAhead, IsNextOf}
use Rattle.append_core.proofs.stages.settle_all.Given as goal

-- the first colours are settled
abbrev pub invariant-loop-n : goal.invariant-loop-n
invariant-loop-n g l = record {
  hold : IsHold l.region l.hold;
  seat : IsLater l.fn.hold.seat l.hold.seat;
  goes : GoesOn (IsStepIn l.begun) l.fn.hold l.hold;
  places : length l.places ≡ MAX_COLOURS;
  settled : (old : Hold) (x : Node) → IsNextOf l.region old x → l.begun ≡ own_append old x
      → HasDecided l.region old l.fn.hold x l.outcome l.fn.places l.course.stop
      → AreSettled l.region old l.hold x l.outcome l.places l.n;
  ahead : IsAhead l.course.stop (length l.points + 2) → IsAhead l.course.stop (l.n + length l.points + 2);
}
