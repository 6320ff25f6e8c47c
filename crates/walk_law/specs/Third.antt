-- The third rule, region by region.
use Rattle.std.specs.Prelude.{ℕ, ◌*◌, ◌<◌, List, take, drop}
use Rattle.std.specs.List.{filter}
use Rattle.script_text.specs.declared.script.Script.{Script}
use Rattle.report_text.specs.declared.report.RowReport.{RowReport}
use Rattle.report_text.specs.declared.report.Report.{Report}
use Rattle.run_rules.specs.Telling.{is_in}
use Rattle.walk_law.specs.RowsBeside.{AreRowsBeside}

-- what stands of columns for a region, by colour
abbrev pub of_region : {A : Type 0} → ℕ → ℕ → List A → List A
of_region colours region all = take colours (drop (region * colours) all)

-- the rows of a region
abbrev pub rows_in : ℕ → List RowReport → List RowReport
rows_in region rows = filter (is_in region) rows

-- the rows of a region are lawful beside its columns
abbrev pub AreRowsIn : Script → Report → ℕ → Type 0
AreRowsIn script report region =
    AreRowsBeside script region (of_region script.shape.colours region report.columns) (rows_in region report.rows)

-- and those of each region are
abbrev pub AreRows : Script → Report → Type 0
AreRows script report = (region : ℕ) → region < script.shape.regions → AreRowsIn script report region
