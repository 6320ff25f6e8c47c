-- What rule 1 and a well formed report ask of what a report lists.
use Rattle.std.specs.Prelude.{◌≡◌, ℕ, ◌<◌, map}
use Rattle.std.specs.List.{All, filter, flat_map, range_with_len}
use Rattle.std.specs.List.Sorted.{IsNonDecreasing}
use Rattle.col_core.specs.Rows.{BegunRow}
use Rattle.script_text.specs.declared.script.Script.{Script}
use Rattle.report_text.specs.declared.report.ClientReport.{ClientReport}
use Rattle.report_text.specs.declared.report.ColumnReport.{ColumnReport}
use Rattle.report_text.specs.declared.report.Report.{Report}
use Rattle.lawful_run.specs.Columns.{column_numbers}
use Rattle.run_rules.specs.Rules.{IsNamed}
use Rattle.run_rules.specs.Telling.{account_of, is_in, no_nodes}

-- the fields of the first rule, at the account with no nodes, and of a well formed report that are not of replies; that no two
-- columns have the same numbers follows
pub record HasLists (script : Script) (report : Report) : Type 0 where
  pub version : report.version ≡ script.version
  pub names : map (λ (c : ClientReport). c.name) report.clients ≡ script.clients
  pub columns : map (λ (c : ColumnReport). (c.region, c.colour)) report.columns
      ≡ column_numbers script.shape.regions script.shape.colours
  pub named : All (IsNamed script) report.columns
  pub rows : report.rows ≡ flat_map (λ region. filter (is_in region) report.rows) (range_with_len 0 script.shape.regions)
  pub by_client : (region : ℕ) → region < script.shape.regions
      → IsNonDecreasing (map (λ (r : BegunRow). r.row.client) ((account_of script report no_nodes).log.rows region))
