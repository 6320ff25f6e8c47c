use Rattle.std.proofs.Common.{◌≡◌, ◌+◌, ℕ, Some, length, slice_get}
use Rattle.chain_store.specs.declared.seated.Seated.{Seated}
use Rattle.chain_store.specs.Passes.{ColumnCell}
use Rattle.chain_store.specs.Closings.{IsClosed}
use Rattle.chain_store.proofs.Gathering.{Shrunk}
use Rattle.chain_store.proofs.closing.close_columns.Given as goal

-- the cells that are left are the first ones, as are each client's passes; the others are closed
abbrev pub invariant-loop-cell : goal.invariant-loop-cell
invariant-loop-cell g l = record {
  cells : (k : ℕ) (c : ColumnCell) → slice_get l.cells.items k ≡ Some c → slice_get l.initial.cells.items k ≡ Some c;
  count : length l.cells.items + length l.closed.items ≡ length l.initial.cells.items;
  passes : Shrunk l.initial.clients.items l.clients.items (length l.cells.items);
  closed : (k : ℕ) (c : ColumnCell) (s : Seated) → slice_get l.initial.cells.items (length l.cells.items + k) ≡ Some c
      → slice_get l.closed.items k ≡ Some s → IsClosed c l.initial.clients.items (length l.cells.items + k) s;
}

abbrev pub decreases-loop-cell : goal.decreases-loop-cell
decreases-loop-cell g l = length l.cells.items
