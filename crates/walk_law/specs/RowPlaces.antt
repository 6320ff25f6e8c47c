-- At which place each row stands among all.
use Rattle.std.specs.Prelude.{◌≡◌, ℕ, List, Option, Some, None, slice_get}
use Rattle.std.specs.List.{find}
use Rattle.std.specs.Option.{option_map}
use Rattle.log_node.specs.declared.ids.Id.{Id}
use Rattle.report_text.specs.declared.report.RowReport.{RowReport}
use Rattle.walk_law.specs.declared.row_places.RowId.{RowId}
use Rattle.walk_law.specs.declared.row_places.RowPlaces.{RowPlaces}
use Rattle.walk_law.specs.PlaceTables.{row_with, same_row}

-- the place that is kept for a row
abbrev pub place_in : RowPlaces → ℕ → Id → Option ℕ
place_in table region id =
    option_map (λ e. e.1) (find (λ (e : RowId × ℕ). same_row e.0.region e.0.id region id) table.by_row.entries)

-- the row at a place, if there is one
abbrev pub row_at : List RowReport → Option ℕ → Option RowReport
row_at rows None = None
row_at rows (Some place) = slice_get rows place

-- those of the first row of each region and id
abbrev pub AreRowPlaces : List RowReport → RowPlaces → Type 0
AreRowPlaces rows table = (region : ℕ) (id : Id) → row_at rows (place_in table region id) ≡ row_with region id rows
