use Rattle.std.proofs.Common.{◌≡◌, ◌+◌, ℕ, Some, slice_get, length}
use Rattle.stamp_board.specs.declared.seats.ColumnSeat.{ColumnSeat}
use Rattle.ring_ends.specs.declared.rings.Rings.{Rings}
use Rattle.ring_ends.specs.Rings.{names_of}
use Rattle.chain_store.specs.Passes.{ColumnCell, IsCellOf, tag_in}
use Rattle.chain_store.specs.Desks.{AreSharesOf}
use Rattle.chain_store.specs.Openings.{HaveAll}
use Rattle.chain_store.proofs.opening.open_columns.Given as goal

-- the seats and the rings that are left are the first ones; the columns of the others are open
abbrev pub invariant-loop-seat : goal.invariant-loop-seat
invariant-loop-seat l = record {
  left : (n : ℕ) (s : ColumnSeat) → slice_get l.seats.items n ≡ Some s → slice_get l.initial.seats.items n ≡ Some s;
  ends : (n : ℕ) (x : Rings) → slice_get l.ends.items n ≡ Some x → slice_get l.initial.ends.items n ≡ Some x;
  even : length l.ends.items ≡ length l.seats.items;
  count : length l.seats.items + length l.cells.items ≡ length l.initial.seats.items;
  tied : (k : ℕ) (c : ColumnCell) → slice_get l.cells.items k ≡ Some c
      → IsCellOf l.board l.region (length l.seats.items + k) l.shape.regions c;
  rings : (k : ℕ) (x : Rings) (c : ColumnCell) → slice_get l.initial.ends.items (length l.seats.items + k) ≡ Some x
      → slice_get l.cells.items k ≡ Some c → (tag_in c).rings ≡ names_of x;
  shared : AreSharesOf l.cells.items l.shares.items;
  many : length l.clients.items ≡ l.board.size.clients;
  all : HaveAll l.cells.items l.shares.items l.clients.items;
}

abbrev pub decreases-loop-seat : goal.decreases-loop-seat
decreases-loop-seat l = length l.seats.items
