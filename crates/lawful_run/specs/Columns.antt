-- The columns and the rows of a report.
use Rattle.std.specs.Prelude.{◌≡◌, ℕ, ◌<◌, List, length, map, Some, slice_get, slice_index}
use Rattle.std.specs.List.{All, flat_map, range_with_len}
use Rattle.std.specs.List.Sorted.{IsNonDecreasing}
use Rattle.log_node.specs.Standings.{queue_of}
use Rattle.col_core.specs.declared.Entry.{Entry}
use Rattle.col_core.specs.History.{clock, entries, line}
use Rattle.log_node.specs.Reach.{IsGreatestReachable}
use Rattle.col_core.specs.Cuts.{chain, base}
use Rattle.col_core.specs.Computed.{dated}
use Rattle.col_core.specs.Legal.{IsColumnHistory}
use Rattle.col_core.specs.Rows.{BegunRow, AreLawfulRows}
use Rattle.col_core.specs.Copies.{AreTrueCopies}
use Rattle.col_core.specs.Log.{Log}
use Rattle.script_text.specs.declared.script.Script.{Script}
use Rattle.report_text.specs.declared.report.QueueKey.{QueueKey}
use Rattle.report_text.specs.declared.report.RowReport.{RowReport}
use Rattle.report_text.specs.declared.report.ColumnReport.{ColumnReport}

-- the numbers of the columns, by region and then colour
abbrev pub column_numbers : ℕ → ℕ → List (ℕ × ℕ)
column_numbers regions colours = flat_map (λ region. map (λ colour. (region, colour)) (range_with_len 0 colours))
    (range_with_len 0 regions)

-- the closing line shows what the whole history is
pub record ShowsClosing (regions : ℕ) (history : List Entry) (column : ColumnReport) : Type 0 where
  pub clock_shown : column.clock ≡ clock history
  pub line_shown : column.line ≡ line history
  pub queue_shown : map (λ (q : QueueKey). record { key = q.key; settled = q.settled }) column.queue
      ≡ queue_of (entries history)
  pub cut_shown : IsGreatestReachable (chain column.region (dated column.region history)) column.cut
  pub base_shown : column.base ≡ base column.region regions (dated column.region history)

-- A column's journal is its history in the log, each event is lawful after those before, and the closing line shows
-- its end.
pub record IsColumnReport (log : Log) (script : Script) (column : ColumnReport) : Type 0 where
  pub history : column.journal ≡ log.histories column.region column.colour
  pub legal : IsColumnHistory column.region script.shape.regions (dated column.region column.journal)
  pub makers : All (λ (e : Entry). e.by < length script.clients) column.journal
  pub closing : ShowsClosing script.shape.regions column.journal column
  pub region_named : slice_get script.regions column.region ≡ Some column.region_name
  pub colour_named : slice_get script.colours column.colour ≡ Some column.colour_name

-- all columns are there, each a legal history
pub record AreColumns (log : Log) (script : Script) (columns : List ColumnReport) : Type 0 where
  pub all : map (λ (c : ColumnReport). (c.region, c.colour)) columns
      ≡ column_numbers script.shape.regions script.shape.colours
  pub each : All (IsColumnReport log script) columns

-- the report of a begun row
abbrev pub row_report : ℕ → BegunRow → RowReport
row_report region r = record { region = region; row = r.row; id = r.node.id; marks = r.marks; last = r.last }

-- the script has the client, in this region
abbrev pub IsClientIn : Script → ℕ → ℕ → Type 0
IsClientIn script region client =
    (client < length script.shape.homes) × (slice_index script.shape.homes client ≡ region)

-- all begun rows are there, lawful beside the histories
pub record AreRowReports (log : Log) (script : Script) (reports : List RowReport) : Type 0 where
  pub all : reports ≡ flat_map (λ region. map (row_report region) (log.rows region))
      (range_with_len 0 script.shape.regions)
  pub by_client : (region : ℕ) → region < script.shape.regions
      → IsNonDecreasing (map (λ (r : BegunRow). r.row.client) (log.rows region))
  -- each row is of a client of its region
  pub of_clients : (region : ℕ) → region < script.shape.regions
      → All (λ (r : BegunRow). IsClientIn script region r.row.client) (log.rows region)
  pub lawful : (region : ℕ) → region < script.shape.regions
      → AreLawfulRows region script.shape.colours (log.histories region) (log.rows region)

-- what each region holds of another's chain is a true copy
abbrev pub HoldsTrueCopies : Log → Script → Type 0
HoldsTrueCopies log script = (colour : ℕ) → colour < script.shape.colours
    → AreTrueCopies script.shape.regions (λ region. dated region (log.histories region colour))
