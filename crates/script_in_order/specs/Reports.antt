-- What the report shows of a world and its replies.
use Rattle.std.specs.Prelude.{ℕ, List, map}
use Rattle.std.specs.List.{flat_map}
use Rattle.world_laws.specs.Worlds.{World}
use Rattle.world_laws.specs.Laws.{rows_of_client, rows_of_region}
use Rattle.script_text.specs.declared.script.Script.{Script}
use Rattle.report_text.specs.declared.report.ClientReport.{ClientReport}
use Rattle.report_text.specs.declared.report.ColumnReport.{ColumnReport}
use Rattle.report_text.specs.declared.report.RowReport.{RowReport}
use Rattle.lawful_run.specs.Columns.{row_report}
use Rattle.column.specs.Columns.{ColumnState}
use Rattle.closing_report.specs.Columns.{column_shown}
use Rattle.script_in_order.specs.Runs.{RepliesView, replies_at}

-- the replies to a client under its name
abbrev pub client_shown : List RepliesView → ℕ × List ℕ → ClientReport
client_shown replies c = record { name = c.1; replies = (replies_at replies c.0).lines }

-- the rows that a client has begun
abbrev pub client_rows_shown : World → ℕ → ℕ → List RowReport
client_rows_shown w region client = map (row_report region) (rows_of_client w client)

-- the rows that the clients of a region have begun
abbrev pub region_rows_shown : World → ℕ → List RowReport
region_rows_shown w region = map (row_report region) (rows_of_region w region)

-- the columns of all regions
abbrev pub columns_shown : Script → List (List ColumnState) → List ColumnReport
columns_shown script regions = flat_map (map (column_shown script.regions script.colours)) regions
