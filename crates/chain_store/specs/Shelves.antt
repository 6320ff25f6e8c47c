-- What the writer of a column's copies keeps, on its shelf.
use Rattle.std.specs.Prelude.{◌≡◌, drop, Some}
use Rattle.core.specs.Mem.{manually_drop_value}
use Rattle.left_right.specs.Sides.{view}
use Rattle.log_node.specs.declared.ids.Counts.{Counts}
use Rattle.chain_store.specs.declared.read_view.shelf.Shelf.{Shelf}
use Rattle.chain_store.specs.Passes.{ColumnPass}
use Rattle.chain_store.specs.Copies.{column_of, IsKept}

-- The writer on the shelf keeps copies of the pass's column, which show this cut with all that waits, and knows the column.
pub record IsKeptOn (s : Shelf) (p : ColumnPass) (cut : Counts) : Type 0 where
  pub kept : IsKept (manually_drop_value s.writer).desk.shown.value
      (drop (manually_drop_value s.writer).behind (manually_drop_value s.writer).log.items) p cut
  pub knows : view (manually_drop_value s.writer).desk.place ≡ Some (column_of p)
