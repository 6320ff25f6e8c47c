use Rattle.std.proofs.Common.{◌≡◌, ◌<◌, ◌≤◌, ℕ, length, Some, slice_get}
use Rattle.stamp_board.specs.Seats.{IsLater}
use Rattle.chain_store.specs.Going.{GoesOn}
use Rattle.chain_store.specs.Holds.{IsHold}
use Rattle.append_core.specs.declared.stood.Point.{Point}
use Rattle.append_core.specs.Helping.{HelpsOpen}
use Rattle.append_core.specs.Inside.{HasPosition, point_colours}
use Rattle.append_core.proofs.placing.stood.Given as goal

-- the first points have their positions, and the others are as they were
abbrev pub invariant-loop-n : goal.invariant-loop-n
invariant-loop-n g l = record {
  hold : IsHold l.region l.hold;
  seat : IsLater l.fn.hold.seat l.hold.seat;
  next : l.hold.next ≡ l.fn.hold.next;
  goes : GoesOn (λ c e. HelpsOpen l.fn.hold l.hold e) l.fn.hold l.hold;
  colours : point_colours l.points.items ≡ point_colours l.fn.points.items;
  long : length l.points.items ≡ l.n-end;
  few : l.n-end ≤ length l.places;
  placed : (i : ℕ) (p : Point) → i < l.n → slice_get l.points.items i ≡ Some p
      → HasPosition l.hold l.key l.fn.points.items i p;
  rest : (i : ℕ) → l.n ≤ i → slice_get l.points.items i ≡ slice_get l.fn.points.items i;
}
