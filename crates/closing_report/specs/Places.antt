-- Columns that are shown each in a place of its own.
use Rattle.std.specs.Prelude.{◌≡◌, ℕ, List, Some, None, length, slice_get, IfSome}
use Rattle.column.specs.Columns.{ColumnState}
use Rattle.closing_report.specs.Columns.{column_shown}
use Rattle.closing_report.specs.declared.beside.Place.{Place}

-- a column in its place, before it is shown
abbrev pub open_place : ColumnState → Place
open_place column = record { column = Some column; shown = None }

-- of the column that stood in a place nothing is shown, or all
abbrev pub IsShown : List (List ℕ) → List (List ℕ) → Place → Place → Type 0
IsShown regions colours before after =
    (column : ColumnState) → before.column ≡ Some column → IfSome after.shown (λ report. report ≡ column_shown regions colours column)

-- so it is in each place
pub record ArePlacesShown (regions colours : List (List ℕ)) (before after : List Place) : Type 0 where
  pub many : length after ≡ length before
  pub each : (n : ℕ) (x y : Place) → slice_get before n ≡ Some x → slice_get after n ≡ Some y → IsShown regions colours x y
