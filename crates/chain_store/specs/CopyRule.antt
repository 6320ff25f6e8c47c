-- The rule of a column's copies, over what they show and the columns that readers know.
use Rattle.std.specs.Prelude.{◌≡◌, ℕ, List, Option, Some, None}
use mathlib.Core.Option.{some}
use lib.ListN.{get_elem?}
use Rattle.chain_store.specs.declared.read_view.name.ColumnName.{ColumnName}
use Rattle.chain_store.specs.declared.read_view.copied.Copied.{Copied}
use Rattle.chain_store.specs.Copies.{shape_of, IsGood}

-- what is known is this column, if anything is
abbrev pub Fits : ColumnName → Option ColumnName → Type 0
Fits c None = Unit {0}
Fits c (Some known) = known ≡ c

-- the same of each reader, and of the writer
abbrev pub AllFit : ColumnName → List (Option ColumnName) → Type 0
AllFit c views = (j : ℕ) (v : Option ColumnName) → get_elem? views j ≡ some v → Fits c v

-- the copy is good, and of the column that each knows
abbrev pub IsTold : Copied → List (Option ColumnName) → Type 0
IsTold x views = IsGood (shape_of x) × AllFit (shape_of x).column views

-- what is found is good, of the column that was known, which is then known
abbrev pub Finds : Option ColumnName → Copied → Copied → Option ColumnName → Type 0
Finds v x y w = IsGood (shape_of y) × Fits (shape_of y).column v × (w ≡ Some (shape_of y).column)
