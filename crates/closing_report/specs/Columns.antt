-- What a report shows of a column in the end.
use Rattle.std.specs.Prelude.{◌≡◌, ℕ, ◌<◌, List, [], length, map, unwrap_or, slice_get}
use Rattle.log_node.specs.Standings.{Standing, queue_of}
use Rattle.col_core.specs.History.{clock, entries, line}
use Rattle.column.specs.Columns.{ColumnState, cut_of, base_of}
use Rattle.report_text.specs.declared.report.QueueKey.{QueueKey}
use Rattle.report_text.specs.declared.report.ColumnReport.{ColumnReport}

-- an entry that is not in the line
abbrev pub waiting_shown : Standing → QueueKey
waiting_shown s = record { key = s.key; settled = s.settled }

-- a column, where regions and colours have these names
abbrev pub column_shown : List (List ℕ) → List (List ℕ) → ColumnState → ColumnReport
column_shown regions colours column = record {
  region = column.region;
  colour = column.colour;
  region_name = unwrap_or (slice_get regions column.region) [];
  colour_name = unwrap_or (slice_get colours column.colour) [];
  journal = column.journal;
  clock = clock column.journal;
  line = line column.journal;
  queue = map waiting_shown (queue_of (entries column.journal));
  cut = cut_of column;
  base = base_of column;
}

-- its region and its colour have names
abbrev pub HasNames : List (List ℕ) → List (List ℕ) → ColumnState → Type 0
HasNames regions colours column = (column.region < length regions) × (column.colour < length colours)
