-- The lines of a column: its name, its journal, and what it is in the end.
use Rattle.std.specs.Prelude.{ℕ, List, [], ◌∷◌, ◌++◌, decimal, codes, if◌then◌else◌}
use Rattle.std.specs.List.{flat_map, enumerate_from}
use Rattle.log_node.specs.declared.ids.Id.{Id}
use Rattle.log_node.specs.declared.ids.Counts.{Counts}
use Rattle.log_node.specs.declared.node.Head.{Head}
use Rattle.col_core.specs.declared.Event.{Event}
use Rattle.col_core.specs.declared.Event.TheVariants.{Single, Propose, Settle, Raise, Give, Carry, Trim}
use Rattle.col_core.specs.declared.Entry.{Entry}
use Rattle.report_text.specs.declared.report.QueueKey.{QueueKey}
use Rattle.report_text.specs.declared.report.ColumnReport.{ColumnReport}
use Rattle.report_text.specs.declared.report.Report.{Report}
use Rattle.report_text.specs.Names.{region_name, client_name}
use Rattle.report_text.specs.Pieces.{line_end, spaced, listed, id_text, key_text, counts_text}
use Rattle.report_text.specs.Rows.{outcome_text}

-- an id that enters the column, with the floor and the wants of its append
abbrev pub entering_text : Report → Id → ℕ → Counts → List ℕ
entering_text report id floor wants = id_text report id ++ codes " floor " ++ decimal floor ++ codes " wants " ++ counts_text report wants

-- a carried node: its key, `/`, its needs
abbrev pub head_text : Report → Head → List ℕ
head_text report head = key_text report head.key ++ 47 ∷ counts_text report head.needs

-- an event, and the stamp that it gave
abbrev pub event_text : Report → Event → ℕ → List ℕ
event_text report (Single id floor wants) stamp = codes "single " ++ entering_text report id floor wants ++ codes " stamp " ++ decimal stamp
event_text report (Propose id floor wants) stamp = codes "propose " ++ entering_text report id floor wants ++ codes " stamp " ++ decimal stamp
event_text report (Settle id outcome) stamp = codes "settle " ++ id_text report id ++ 32 ∷ outcome_text outcome
event_text report (Raise to) stamp = codes "raise " ++ decimal to
event_text report (Give region from) stamp = codes "give " ++ region_name report region ++ 32 ∷ decimal from
event_text report (Carry region start heads) stamp =
    codes "carry " ++ region_name report region ++ 32 ∷ decimal start ++ spaced (head_text report) heads
event_text report (Trim counts) stamp = codes "trim " ++ counts_text report counts

-- the place, who made it, the event
abbrev pub journal_line : Report → ℕ × Entry → List ℕ
journal_line report placed =
    decimal placed.0 ++ 32 ∷ client_name report placed.1.by ++ 32 ∷ event_text report placed.1.event placed.1.stamp ++ line_end

-- a key that is not in the line, with `?` behind an open one
abbrev pub queue_key_text : Report → QueueKey → List ℕ
queue_key_text report q = key_text report q.key ++ (if q.settled then [] else 63 ∷ [])

-- what the column is in the end
abbrev pub closing_line : Report → ColumnReport → List ℕ
closing_line report column =
    codes "= clock " ++ decimal column.clock
    ++ codes " line " ++ listed (key_text report) column.line
    ++ codes " queue " ++ listed (queue_key_text report) column.queue
    ++ codes " cut " ++ counts_text report column.cut
    ++ codes " base " ++ counts_text report column.base ++ line_end

-- places count from 0
abbrev pub column_lines : Report → ColumnReport → List ℕ
column_lines report column =
    codes "column " ++ column.region_name ++ 32 ∷ column.colour_name ++ line_end
    ++ flat_map (journal_line report) (enumerate_from 0 column.journal)
    ++ closing_line report column
