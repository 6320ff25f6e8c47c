-- The nodes of a column, which of them are shown, and how deep in their lane.
use Rattle.std.specs.Prelude.{Bool, true, false, ℕ, ◌+◌, ◌-◌, ◌^◌, ◌==◌, nat_lt, nat_le, min, not, ◌&&◌, List, ◌++◌, length, map, filter, if◌then◌else◌}
use Rattle.std.specs.List.{count_by, enumerate_from, fold}
use Rattle.log_node.specs.declared.ids.Key.{Key}
use Rattle.log_node.specs.Order.{id_below}
use Rattle.log_node.specs.Vectors.{at}
use Rattle.report_text.specs.declared.report.QueueKey.{QueueKey}
use Rattle.report_text.specs.declared.report.ColumnReport.{ColumnReport}
use Rattle.report_text.specs.declared.report.Report.{Report}
use Rattle.run_picture.specs.declared.picture.Kind.{Kind}
use Rattle.run_picture.specs.declared.picture.Kind.TheVariants.{Stands, Trimmed, Waits, Open}
use Rattle.run_picture.specs.declared.picture.Mark.{Mark}
use Rattle.run_picture.specs.declared.marks.TheConstants.{SHOWN}

-- the greater of a stamp and a column's clock
abbrev pub later_clock : ℕ → ColumnReport → ℕ
later_clock last column = if nat_lt last column.clock then column.clock else last

-- the greatest clock of all columns: the last stamp of the axis
abbrev pub greatest_clock : Report → ℕ
greatest_clock report = fold later_clock 0 report.columns

-- how many stamps the axis has, where this is the last one
abbrev pub slots : ℕ → ℕ
slots last = min last SHOWN

-- the first of so many stamps
abbrev pub first_stamp : ℕ → ℕ
first_stamp last = if nat_lt last SHOWN then 1 else last - SHOWN + 1

-- a node at a position of the line: one below the base was trimmed
abbrev pub line_mark : ℕ → ℕ × Key → Mark
line_mark base placed =
    record { key = placed.1; kind = if nat_lt placed.0 base then Trimmed else Stands; position = placed.0 }

-- a node that is not in the line: final and waiting, or open under its tentative stamp
abbrev pub queue_mark : ℕ → QueueKey → Mark
queue_mark position waiting =
    record { key = waiting.key; kind = if waiting.settled then Waits else Open; position = position }

-- the nodes of a column: its line, and then its queue
abbrev pub marks : ColumnReport → List Mark
marks column =
    map (line_mark (at column.base column.region)) (enumerate_from 0 column.line)
    ++ map (queue_mark (length column.line)) column.queue

-- the axis has the stamp, where this is the last one
abbrev pub has_stamp : ℕ → ℕ → Bool
has_stamp last stamp = nat_le (first_stamp last) stamp && nat_le stamp last

-- the axis has the stamp of the node
abbrev pub is_shown : ℕ → Mark → Bool
is_shown last mark = has_stamp last mark.key.stamp

-- the nodes of a column that are shown
abbrev pub shown : ℕ → ColumnReport → List Mark
shown last column = filter (is_shown last) (marks column)

-- how many keys of a line have a stamp that is not shown
abbrev pub keys_left_out : ℕ → List Key → ℕ
keys_left_out last line = count_by (λ key. not (has_stamp last key.stamp)) line

-- the same of a queue
abbrev pub queue_left_out : ℕ → List QueueKey → ℕ
queue_left_out last queue = count_by (λ waiting. not (has_stamp last waiting.key.stamp)) queue

-- how many nodes of a column are not shown, up to the greatest number of 64 bits
abbrev pub left_out : ℕ → ColumnReport → ℕ
left_out last column = min (keys_left_out last column.line + queue_left_out last column.queue) (2 ^ 64 - 1)

-- the second node stands above the first: it has its stamp, and a lesser id
abbrev pub is_above : Mark → Mark → Bool
is_above mark other = (other.key.stamp == mark.key.stamp) && id_below other.key.id mark.key.id

-- how many of the nodes stand above this one, 3 at most
abbrev pub depth_among : List Mark → Mark → ℕ
depth_among found mark = min (count_by (is_above mark) found) 3

-- the node is in the line
abbrev pub is_in_line : Kind → Bool
is_in_line Stands = true
is_in_line Trimmed = true
is_in_line Waits = false
is_in_line Open = false
