use Rattle.std.proofs.Common.{◌≡◌, ◌+◌, ℕ, Some, slice_get, length}
use Rattle.stamp_board.specs.declared.seats.Seat.{Seat}
use Rattle.chain_store.specs.declared.opening.Client.{Client}
use Rattle.chain_store.specs.Openings.{Zipped}
use Rattle.chain_store.proofs.opening.zip.Given as goal

-- what is left of both are the first ones; the holds are made of the others
abbrev pub invariant-loop-seat : goal.invariant-loop-seat
invariant-loop-seat l = record {
  seats : (n : ℕ) (s : Seat) → slice_get l.seats.items n ≡ Some s → slice_get l.initial.seats.items n ≡ Some s;
  clients : (n : ℕ) (c : Client) → slice_get l.clients.items n ≡ Some c → slice_get l.initial.clients.items n ≡ Some c;
  same : length l.clients.items ≡ length l.seats.items;
  count : length l.seats.items + length l.holds.items ≡ length l.initial.seats.items;
  zipped : Zipped l.initial.clients.items l.initial.seats.items (length l.seats.items) l.holds.items;
}

abbrev pub decreases-loop-seat : goal.decreases-loop-seat
decreases-loop-seat l = length l.seats.items
