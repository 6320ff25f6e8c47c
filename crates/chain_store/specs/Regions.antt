-- What never changes of a region's columns.
use Rattle.std.specs.Prelude.{◌≡◌, ℕ, [], Option, Some, None, slice_get}
use Rattle.ring_ends.specs.Rings.{RingNames}
use Rattle.chain_store.specs.declared.told.Tag.{Tag}
use Rattle.chain_store.specs.declared.region.Region.{Region}
use Rattle.chain_store.specs.Tags.{tag}
use Rattle.chain_store.specs.Passes.{ColumnCell, tag_in}

-- the rings of a column; none without one
abbrev pub rings_in : Option ColumnCell → RingNames
rings_in None = record { sends = []; receives = [] }
rings_in (Some c) = (tag_in c).rings

-- those of a colour's column
abbrev pub rings_at : Region → ℕ → RingNames
rings_at r colour = rings_in (slice_get r.columns.items colour)

-- what never changes of a colour's column
abbrev pub tag_at : Region → ℕ → Tag
tag_at r colour =
    tag r.number colour r.regions r.board.size r.board.table.shared.table_id (rings_at r colour)

-- the cell of a colour's column
pub record IsColumnAt (r : Region) (colour : ℕ) (c : ColumnCell) : Type 0 where
  pub there : slice_get r.columns.items colour ≡ Some c
  pub tagged : tag_in c ≡ tag_at r colour
