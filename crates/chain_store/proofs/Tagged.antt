-- What never changes of a region's columns, from their cells.
use Rattle.std.proofs.Common.{◌≡◌, ℕ, Some, slice_get, ap, sym, ◌∙◌}
use Rattle.ring_ends.specs.Rings.{RingNames}
use Rattle.stamp_board.specs.declared.board.Board.{Board}
use Rattle.column.specs.Columns.{ColumnState}
use Rattle.stamp_board.specs.declared.seats.ColumnSeat.{ColumnSeat}
use Rattle.stamp_board.specs.Seats.{IsColumnOf, column_seen}
use Rattle.chain_store.specs.declared.told.Tag.{Tag}
use Rattle.chain_store.specs.declared.region.Region.{Region}
use Rattle.chain_store.specs.Tags.{tag}
use Rattle.chain_store.specs.Passes.{ColumnCell, IsCellOf, tag_in}
use Rattle.chain_store.specs.Regions.{rings_in, tag_at, IsColumnAt}

-- the cell at a colour's place is that colour's
pub tagged_at : (r : Region) (k : ℕ) (c : ColumnCell) → slice_get r.columns.items k ≡ Some c → tag_in c ≡ tag_at r k
tagged_at r k c at =
    r.tied k c at
    ∙ ap (λ (n : RingNames). tag r.number k r.regions r.board.size r.board.table.shared.table_id n) (ap rings_in (sym at))

pub column_at : (r : Region) (k : ℕ) (c : ColumnCell) → slice_get r.columns.items k ≡ Some c → IsColumnAt r k c
column_at r k c at = record { there = at; tagged = tagged_at r k c at }

-- a cell whose column is this one, beside its seat of the board
pub cell_of : (b : Board) (region colour regions : ℕ) (column : ColumnState) (seat : ColumnSeat) (rings : RingNames)
    (c : ColumnCell)
    → tag_in c ≡ tag column.region column.colour column.regions (column_seen seat).size seat.inner.table_id rings
    → column.region ≡ region → column.colour ≡ colour → column.regions ≡ regions → IsColumnOf b seat
    → IsCellOf b region colour regions c
cell_of b region colour regions column seat rings c is in_region of_colour among of =
    is ∙ (λ i. tag (in_region i) (of_colour i) (among i) (of.1 i) (of.0 i) (ap (λ (t : Tag). t.rings) (sym is) i))
