-- What a look shows that goes on from counts.
use Rattle.std.specs.Prelude.{◌≡◌, true, false, List}
use Rattle.log_node.specs.declared.ids.Counts.{Counts}
use Rattle.log_node.specs.Vectors.{is_within}
use Rattle.col_core.specs.Cuts.{base}
use Rattle.column.specs.Columns.{ColumnState, base_of}
use Rattle.column.specs.Views.{IsView}
use Rattle.chain_store.specs.declared.told.Tag.{Tag}
use Rattle.chain_store.specs.declared.told.Told.{Told}
use Rattle.chain_store.specs.declared.looks.Looked.{Looked}
use Rattle.chain_store.specs.declared.looks.Looked.TheVariants.{On, Behind}
use Rattle.chain_store.specs.Passes.{ShowsHistory, dated_in}

-- of a column: the view from these counts on where they are not behind its base, and else the base alone
abbrev pub IsLooked : ColumnState → Counts → Looked → Type 0
IsLooked column from (On view) = IsView column from view × (is_within view.base from ≡ true)
IsLooked column from (Behind shown) = (shown ≡ base_of column) × (is_within shown from ≡ false)

-- the same of a history
abbrev pub ShowsOn : Tag → List Told → Counts → Looked → Type 0
ShowsOn t log from (On view) = ShowsHistory t log from view × (is_within view.base from ≡ true)
ShowsOn t log from (Behind shown) = (shown ≡ base t.region t.regions (dated_in t log)) × (is_within shown from ≡ false)
