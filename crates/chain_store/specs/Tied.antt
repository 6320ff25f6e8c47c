-- The columns of a region, each beside its seat of the region's board.
use Rattle.std.specs.Prelude.{◌≡◌, ℕ, List, Some, slice_get}
use Rattle.ring_ends.specs.declared.rings.Rings.{Rings}
use Rattle.ring_ends.specs.Rings.{names_of}
use Rattle.stamp_board.specs.declared.board.Board.{Board}
use Rattle.chain_store.specs.Passes.{ColumnCell, IsCellOf, tag_in}

-- they are the columns of a region among so many, by colour
abbrev pub AreTied : Board → ℕ → ℕ → List ColumnCell → Type 0
AreTied b region regions cells =
    (colour : ℕ) (c : ColumnCell) → slice_get cells colour ≡ Some c → IsCellOf b region colour regions c

-- the columns, by colour, have these rings
abbrev pub HaveRings : List Rings → List ColumnCell → Type 0
HaveRings ends cells =
    (colour : ℕ) (rings : Rings) (c : ColumnCell) → slice_get ends colour ≡ Some rings → slice_get cells colour ≡ Some c
    → (tag_in c).rings ≡ names_of rings
