-- What a report leaves open, and what was helped.
use Rattle.std.specs.Prelude.{◌≡◌, ◌≢◌, ◌⊎◌, Bool, true, false, not, IsTrue, ℕ, ◌<◌, ◌==◌, ◌&&◌, List, is_some}
use Rattle.std.specs.List.{All, list_any}
use Rattle.log_node.specs.declared.ids.Id.{Id}
use Rattle.log_node.specs.declared.marks.Outcome.TheVariants.{Open}
use Rattle.log_node.specs.Order.{same_id}
use Rattle.col_core.specs.declared.Event.{Event}
use Rattle.col_core.specs.declared.Event.TheVariants.{Single, Propose, Settle, Raise, Give, Carry, Trim}
use Rattle.col_core.specs.declared.Entry.{Entry}
use Rattle.report_text.specs.declared.report.Answer.{Answer}
use Rattle.report_text.specs.declared.report.Answer.TheVariants as answers
use Rattle.report_text.specs.declared.report.ColumnReport.{ColumnReport}
use Rattle.report_text.specs.declared.report.QueueKey.{QueueKey}
use Rattle.report_text.specs.declared.report.Report.{Report}
use Rattle.report_text.specs.declared.report.RowReport.{RowReport}
use Rattle.lawful_run.specs.Lawful.{HasStopped}
use Rattle.walk_law.specs.declared.row_table.RowTable.{RowTable}
use Rattle.walk_law.specs.RowsBeside.{row_in}

-- the answer is that of a stop
abbrev pub IsStopped : Answer → Type 0
IsStopped answer = (steps : ℕ) × (answer ≡ answers.Stopped steps)

-- the entry is settled, or its client stopped
abbrev pub IsLeftBy : Report → QueueKey → Type 0
IsLeftBy report q = IsTrue q.settled ⊎ HasStopped report q.key.id.client

-- all that a column leaves open is of clients that stopped
abbrev pub IsColumnLeft : Report → ColumnReport → Type 0
IsColumnLeft report column = All (IsLeftBy report) column.queue

-- the row has an outcome, or its client stopped
abbrev pub IsRowLeft : Report → RowReport → Type 0
IsRowLeft report r = r.last ≡ Open → HasStopped report r.row.client

-- IDS

-- the id was put in
abbrev pub has_id : RowTable → Id → Bool
has_id table id = is_some (row_in table id)

-- the id is open in a column in the end
abbrev pub is_open_key : Id → QueueKey → Bool
is_open_key id q = not q.settled && same_id id q.key.id

abbrev pub is_open_in : Id → ColumnReport → Bool
is_open_in id column = list_any (is_open_key id) column.queue

-- some event completes the append of an id for another client
abbrev pub helps : Id → ℕ → Event → Bool
helps id by (Single other floor wants) = false
helps id by (Propose other floor wants) = not (other.client == by) && same_id id other
helps id by (Settle other outcome) = not (other.client == by) && same_id id other
helps id by (Raise to) = false
helps id by (Give region from) = false
helps id by (Carry region start heads) = false
helps id by (Trim counts) = false

abbrev pub is_help_in : Id → ColumnReport → Bool
is_help_in id column = list_any (λ (e : Entry). helps id e.by e.event) column.journal

-- so in a column of a region
abbrev pub is_open_among : ℕ → List ColumnReport → Id → Bool
is_open_among region columns id = list_any (λ (c : ColumnReport). (c.region == region) && is_open_in id c) columns

abbrev pub is_help_among : ℕ → List ColumnReport → Id → Bool
is_help_among region columns id = list_any (λ (c : ColumnReport). (c.region == region) && is_help_in id c) columns

-- a row of the region that was helped is complete
abbrev pub IsHelpedWhole : ℕ → List ColumnReport → RowReport → Type 0
IsHelpedWhole region columns r = r.region ≡ region → is_help_among region columns r.id ≡ true
    → (r.last ≢ Open) × (is_open_among region columns r.id ≡ false)

-- and so in all regions
abbrev pub AreAllWhole : ℕ → List ColumnReport → List RowReport → Type 0
AreAllWhole regions columns rows = (region : ℕ) → region < regions → All (IsHelpedWhole region columns) rows
