-- How columns and rows have to be listed, one after another.
use Rattle.std.specs.Prelude.{◌≡◌, Bool, true, false, ℕ, ◌==◌, ◌<◌, ◌≤◌, List, [], ◌∷◌, map}
use Rattle.std.specs.List.{All}
use Rattle.script_text.specs.declared.script.Script.{Script}
use Rattle.report_text.specs.declared.report.ClientReport.{ClientReport}
use Rattle.report_text.specs.declared.report.Report.{Report}
use Rattle.lawful_run.specs.Columns.{column_numbers}
use Rattle.run_rules.specs.Rules.{IsNamed}
use Rattle.report_text.specs.declared.report.ColumnReport.{ColumnReport}
use Rattle.report_text.specs.declared.report.RowReport.{RowReport}

-- the numbers of a column
abbrev pub numbers_of : ColumnReport → ℕ × ℕ
numbers_of c = (c.region, c.colour)

-- the regions do not fall from this one on, and are below a number
abbrev pub RisesFrom : ℕ → ℕ → List RowReport → Type 0
RisesFrom last regions [] = Unit {0}
RisesFrom last regions (r ∷ rs) = (last ≤ r.region) × (r.region < regions) × RisesFrom r.region regions rs

-- of a row that counts, its client is no less than the last, and goes on
abbrev pub RisesIf : Bool → ℕ → ℕ → (ℕ → Type 0) → Type 0
RisesIf true last client behind = (last ≤ client) × behind client
RisesIf false last client behind = behind last

-- the clients of the region's rows do not fall from this one on
abbrev pub ClientsRise : ℕ → ℕ → List RowReport → Type 0
ClientsRise region last [] = Unit {0}
ClientsRise region last (r ∷ rs) =
    RisesIf (r.region == region) last r.row.client (λ l. ClientsRise region l rs)

-- A report's version and names are its script's, all columns are there, in order and under their names, and rows stand by region
-- and client: of the first rule, and of a well formed report, what is not of replies.
pub record IsListed (script : Script) (report : Report) : Type 0 where
  pub version : report.version ≡ script.version
  pub names : map (λ (c : ClientReport). c.name) report.clients ≡ script.clients
  pub columns : map numbers_of report.columns ≡ column_numbers script.shape.regions script.shape.colours
  pub named : All (IsNamed script) report.columns
  pub by_region : RisesFrom 0 script.shape.regions report.rows
  pub by_client : (region : ℕ) → region < script.shape.regions → ClientsRise region 0 report.rows
