-- A table that leads from each number to the first column that has it.
use Rattle.std.specs.Prelude.{ℕ, ◌≡◌, ◌<◌, List, [], Option, Some, None, length, slice_get, slice_index}
use Rattle.report_text.specs.declared.report.ColumnReport.{ColumnReport}
use Rattle.report_text.specs.declared.report.Report.{Report}
use Rattle.report_text.specs.Names.{name_among, region_count}

-- the name of the column at a place; nothing where there is no column
abbrev pub name_at : (ColumnReport → List ℕ) → Option ColumnReport → List ℕ
name_at name_of None = []
name_at name_of (Some column) = name_of column

-- the table has a place for each number of a byte, and there stands the place of the column that names it
pub record IsIndex (number_of : ColumnReport → ℕ) (name_of : ColumnReport → List ℕ) (columns all : List ColumnReport) (table : List ℕ) : Type 0 where
  pub long : length table ≡ 256
  pub leads : (n : ℕ) → n < 256 → name_at name_of (slice_get all (slice_index table n)) ≡ name_among number_of name_of columns n

-- both tables are those of all columns
pub record AreIndexed (report : Report) (region_at colour_at : List ℕ) (regions : ℕ) : Type 0 where
  pub region : IsIndex (λ c. c.region) (λ c. c.region_name) report.columns report.columns region_at
  pub colour : IsIndex (λ c. c.colour) (λ c. c.colour_name) report.columns report.columns colour_at
  pub count : regions ≡ region_count report
