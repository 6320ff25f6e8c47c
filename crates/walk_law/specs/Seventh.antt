-- The seventh rule, at the account with the nodes of the commands: what is looked at of a stop.
use Rattle.std.specs.Prelude.{◌≡◌, ◌≢◌, ◌⊎◌, ◌↔◌, Bool, false, IsTrue, ℕ, zero, suc, ◌+◌, ◌*◌, ◌<◌, ◌≤◌, List, length, Option, Some, None, slice_get}
use Rattle.std.specs.List.{All}
use Rattle.log_node.specs.declared.ids.Id.{Id}
use Rattle.log_node.specs.declared.ids.Colours.{Colours}
use Rattle.log_node.specs.declared.marks.Why.{Why}
use Rattle.log_node.specs.declared.marks.Mark.{Mark}
use Rattle.log_node.specs.declared.marks.Mark.TheVariants as marks
use Rattle.log_node.specs.declared.marks.ColourMark.{ColourMark}
use Rattle.log_node.specs.declared.marks.Outcome.TheVariants.{Open}
use Rattle.log_node.specs.Standings.{open_entry}
use Rattle.col_core.specs.declared.Entry.{Entry}
use Rattle.col_core.specs.History.{entries, has_entered}
use Rattle.col_core.specs.Log.{Log}
use Rattle.col_core.specs.Appending.{IsStepWithin}
use Rattle.col_core.specs.Keeping.{Kept}
use Rattle.script_text.specs.declared.commands.What.{What}
use Rattle.script_text.specs.declared.commands.What.TheVariants as whats
use Rattle.script_text.specs.declared.script.Script.{Script}
use Rattle.script_text.specs.Fitting.{IsFitting}
use Rattle.report_text.specs.declared.report.Answer.{Answer}
use Rattle.report_text.specs.declared.report.Answer.TheVariants as answers
use Rattle.report_text.specs.declared.report.ColumnReport.{ColumnReport}
use Rattle.report_text.specs.declared.report.RowReport.{RowReport}
use Rattle.report_text.specs.declared.report.Report.{Report}
use Rattle.lawful_run.specs.Callers.{Caller}
use Rattle.run_rules.specs.Told.{OfEachStep, Step, Untold, kept_at}
use Rattle.run_rules.specs.Telling.{IsWellFormed, account_of, journal_among}
use Rattle.run_rules.specs.Rules.{Rule7}
use Rattle.run_rules.specs.Nodes.{nodes_told}
use Rattle.run_rules.specs.Keeping.{RulesTo}
use Rattle.walk_law.specs.declared.row_table.RowTable.{RowTable}
use Rattle.walk_law.specs.Fifth.{Finding, next_id}
use Rattle.walk_law.specs.LeftOpen.{has_id, is_open_in}
use Rattle.walk_law.specs.Sixth.{FindsRows}
use Rattle.walk_law.specs.Walking.{Walked, log_walked}

-- IN A COLUMN

-- how it is found whether a column leaves an id open in the end
abbrev pub Opening : Type 0
Opening = ℕ → ℕ → Id → Bool

-- the mark is a fence
abbrev pub IsFence : Mark → Type 0
IsFence mark = (why : Why) × (mark ≡ marks.Fenced why)

-- In the end an id of this mark is not open, and will not be: it is fenced, or has entered.
pub record IsClosed (opens : Bool) (history : List Entry) (id : Id) (mark : Mark) : Type 0 where
  pub not_open : opens ≡ false
  pub for_good : IsFence mark ⊎ IsTrue (has_entered id history)

-- the event at a place is a step of the n-th of k colours, among so many first ones
abbrev pub IsEarlyAt : List Entry → ℕ → ℕ → ℕ → ℕ → Type 0
IsEarlyAt history n k steps place =
    (e : Entry) × (slice_get history place ≡ Some e) × IsStepWithin n k steps e.event

-- The n-th of the k colours of a row, behind so many steps: it is marked, and then settled, and no later step was taken.
pub record StopsIn (opens : Opening) (log : Log) (caller : Caller) (kept : Kept) (places : ℕ → List ℕ) (k steps n : ℕ) (m : ColourMark)
    : Type 0 where
  pub marked : n + 1 < steps → m.mark ≢ marks.None
  pub settled : n + k + 2 < steps → IsClosed (opens caller.own m.colour (next_id caller kept))
      (log.histories caller.own m.colour) (next_id caller kept) m.mark
  pub no_later : All (IsEarlyAt (log.histories caller.own m.colour) n k steps) (places m.colour)

-- the tables of the ids that columns leave open, column by column
pub record AreOpenTables (columns : List ColumnReport) (tables : List RowTable) : Type 0 where
  pub many : length tables ≡ length columns
  pub each : (n : ℕ) (c : ColumnReport) (t : RowTable) → slice_get columns n ≡ Some c → slice_get tables n ≡ Some t
      → (id : Id) → has_id t id ≡ is_open_in id c

-- an id is in a table
abbrev pub is_in_table : Id → Option RowTable → Bool
is_in_table id None = false
is_in_table id (Some t) = has_id t id

-- it is in that of a column, where regions have so many colours
abbrev pub opening_in : List RowTable → ℕ → Opening
opening_in tables colours region colour id = is_in_table id (slice_get tables (region * colours + colour))

-- IN ITS ROW

-- what is looked at of the row of a node, of which so many steps were done
pub record StopsOn (opens : Opening) (log : Log) (caller : Caller) (kept : Kept) (places : ℕ → List ℕ) (steps : ℕ) (r : RowReport)
    : Type 0 where
  pub decided : length r.marks + 2 ≤ steps → r.last ≢ Open
  pub each : (n : ℕ) (m : ColourMark) → slice_get r.marks n ≡ Some m
      → StopsIn opens log caller kept places (length r.marks) steps n m

-- a row was begun, which is so
abbrev pub StopsOnRow : Opening → Log → Caller → Kept → (ℕ → List ℕ) → ℕ → Option RowReport → Type 0
StopsOnRow opens log caller kept places steps None = ⊥
StopsOnRow opens log caller kept places steps (Some r) = StopsOn opens log caller kept places steps r

-- STEPS

-- the command stops after so many steps
abbrev pub AsksToStop : What → ℕ → Type 0
AsksToStop what steps = (colours : Colours) × (text : List ℕ) × (what ≡ whats.Stop steps colours text)

-- no step was done, or some
abbrev pub StopsSo : Finding → Opening → Log → Caller → Kept → (ℕ → List ℕ) → ℕ → Type 0
StopsSo find opens log caller kept places zero = Unit {0}
StopsSo find opens log caller kept places (suc n) =
    StopsOnRow opens log caller kept places (suc n) (find caller.own (next_id caller kept))

-- what is looked at of an answer
abbrev pub StopsBy : Finding → Opening → Log → Untold → Caller → Kept → What → Answer → Type 0
StopsBy find opens log untold caller kept what (answers.Stopped steps) =
    AsksToStop what steps × StopsSo find opens log caller kept untold.places steps
StopsBy find opens log untold caller kept what _ = Unit {0}

-- what is looked at of a step
abbrev pub StopsBeside : Finding → Opening → Walked → Caller → Step → Type 0
StopsBeside find opens walked caller step =
    StopsBy find opens (log_walked walked) step.untold caller (kept_at step) step.command.what step.reply.answer

-- THE RULE

-- In the columns of the shape the ids are found that are open.
abbrev pub FindsOpen : Script → Report → Opening → Type 0
FindsOpen script report opens = (region colour : ℕ) → region < script.shape.regions → colour < script.shape.colours → (id : Id)
    → (opens region colour id ≡ false) ↔ (open_entry id (entries (journal_among report.columns region colour)) ≡ None)

-- Where a report keeps the first six rules, the seventh is what is looked at of each step.
abbrev pub SeventhIsStopping : Type 0
SeventhIsStopping = (script : Script) (report : Report) (find : Finding) (opens : Opening) → IsFitting script → IsWellFormed script report
    → FindsRows report find → FindsOpen script report opens
    → RulesTo script report (account_of script report (nodes_told script report)) 6
    → OfEachStep script report (account_of script report (nodes_told script report))
    (StopsBeside find opens (record { script = script; report = report }))
    ↔ Rule7 script report (account_of script report (nodes_told script report))
