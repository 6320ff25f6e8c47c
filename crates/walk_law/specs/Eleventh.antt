-- The eleventh rule, at the account with what reads found and node lines show: what is looked at of each step.
use Rattle.std.specs.Prelude.{◌≡◌, ◌≢◌, ◌↔◌, Bool, false, IsTrue, ℕ, ◌==◌, ◌<◌, ◌≤◌, List, [], ◌∷◌, length, Option, Some, None, slice_get}
use Rattle.std.specs.List.{All}
use Rattle.log_node.specs.declared.ids.Id.{Id}
use Rattle.log_node.specs.Outcomes.{is_stamp_end_fence}
use Rattle.log_node.specs.declared.marks.ColourMark.{ColourMark}
use Rattle.log_node.specs.declared.marks.Outcome.TheVariants.{Gone}
use Rattle.log_node.specs.declared.marks.Why.TheVariants.{StampEnd}
use Rattle.col_core.specs.Keeping.{Kept}
use Rattle.script_text.specs.Fitting.{IsFitting}
use Rattle.script_text.specs.declared.commands.What.{What}
use Rattle.script_text.specs.declared.commands.What.TheVariants as whats
use Rattle.script_text.specs.declared.script.Script.{Script}
use Rattle.report_text.specs.declared.report.Answer.{Answer}
use Rattle.report_text.specs.declared.report.Answer.TheVariants as answers
use Rattle.report_text.specs.declared.report.ColumnReport.{ColumnReport}
use Rattle.report_text.specs.declared.report.Ended.{Ended}
use Rattle.report_text.specs.declared.report.Ended.TheVariants as ends
use Rattle.report_text.specs.declared.report.Report.{Report}
use Rattle.report_text.specs.declared.report.RowReport.{RowReport}
use Rattle.lawful_run.specs.Callers.{Caller}
use Rattle.lawful_run.specs.Appends.{HadNoStamp}
use Rattle.lawful_run.specs.Asks.{home_asked, home_of_object, tells_stamp_end}
use Rattle.lawful_run.specs.Deeds.{manner_of}
use Rattle.lawful_run.specs.Explains.{IsNoStopAtOnce}
use Rattle.lawful_run.specs.Reads.{IsTrimmed}
use Rattle.lawful_run.specs.Refusals.{IsAway, IsHomeRefusal}
use Rattle.run_rules.specs.Told.{OfEachStep, Step, colours_asked, kept_appending, kept_at}
use Rattle.run_rules.specs.Telling.{IsWellFormed, account_of, no_nodes}
use Rattle.run_rules.specs.Agreeing.{began_row}
use Rattle.run_rules.specs.Deciding.{account_showing}
use Rattle.run_rules.specs.Keeping.{RulesTo}
use Rattle.run_rules.specs.Shown.{Rule11}
use Rattle.walk_law.specs.declared.eleventh.Causes.{Causes}
use Rattle.walk_law.specs.declared.row_table.RowTable.{RowTable}
use Rattle.walk_law.specs.Fifth.{Finding, finding_in, next_id}
use Rattle.walk_law.specs.LeftOpen.{has_id, is_open_among}
use Rattle.walk_law.specs.PlaceTables.{row_with}
use Rattle.walk_law.specs.Walking.{Walked, log_walked}

-- what is looked up: a region's row with an id, and whether columns of a region leave an id open
pub record Lookups : Type 0 where
  pub row : Finding
  pub is_open : ℕ → Id → Bool

-- by rows and closing lines of a report
abbrev pub lookups_of : Report → Lookups
lookups_of report = record {
  row = λ region id. row_with region id report.rows;
  is_open = λ region id. is_open_among region report.columns id;
}

-- IN TABLES

-- the id was put into a table, if there is one
abbrev pub is_put : Option RowTable → Id → Bool
is_put None id = false
is_put (Some table) id = has_id table id

-- columns of a region leave the id open, as tables say
abbrev pub is_left : Causes → ℕ → Id → Bool
is_left causes region id = is_put (slice_get causes.open.items region) id

-- what is looked up in tables, and among rows
abbrev pub looks_in : Causes → List RowReport → Lookups
looks_in causes rows = record { row = finding_in causes.places rows; is_open = is_left causes }

-- there is a table for each region, of the ids that its columns leave open
pub record AreOpenIds (regions : ℕ) (columns : List ColumnReport) (tables : List RowTable) : Type 0 where
  pub many : length tables ≡ regions
  pub each : (region : ℕ) (table : RowTable) → slice_get tables region ≡ Some table
      → (id : Id) → has_id table id ≡ is_open_among region columns id

-- THE ROW OF A REFUSED APPEND

-- of the colours up to this one it alone has a fence for the stamps' end
abbrev pub IsEndMark : ℕ → ColourMark → Type 0
IsEndMark colour m = m.colour ≤ colour → is_stamp_end_fence m.mark ≡ (m.colour == colour)

-- The row is gone, since this colour had no stamp left, which is the least such colour; and its id is left open nowhere.
pub record IsEndedRow (is_open : ℕ → Id → Bool) (colour : ℕ) (r : RowReport) : Type 0 where
  pub gone : r.last ≡ Gone StampEnd
  pub marks : All (IsEndMark colour) r.marks
  pub closed : is_open r.region r.id ≡ false

-- such a row is found
abbrev pub HasEndedRow : (ℕ → Id → Bool) → ℕ → Option RowReport → Type 0
HasEndedRow is_open colour None = ⊥
HasEndedRow is_open colour (Some r) = IsEndedRow is_open colour r

-- STEPS

-- no stamp was left in the colour for a node of these ones
abbrev pub HasEnd : Lookups → Walked → Caller → Kept → ℕ → List ℕ → Type 0
HasEnd looks walked caller kept colour [] = ⊥
HasEnd looks walked caller kept colour (one ∷ []) = (one ≡ colour) × HadNoStamp (log_walked walked) caller kept colour
HasEnd looks walked caller kept colour (one ∷ other ∷ more) =
    HasEndedRow looks.is_open colour (looks.row caller.own (next_id caller kept))

-- none was left for a decision's node, which has one colour
abbrev pub HasLateEnd : Walked → Caller → Kept → What → Ended → Type 0
HasLateEnd walked caller kept what (ends.StampEnd colour) =
    (colours_asked caller kept what ≡ colour ∷ []) × HadNoStamp (log_walked walked) caller kept colour
HasLateEnd walked caller kept what _ = Unit {0}

-- the command commits at its object's home, of which no read is kept
abbrev pub HasNoTx : Caller → Kept → What → Type 0
HasNoTx caller kept what =
    (object : ℕ) × (pairs : _) × (what ≡ whats.Commit object pairs)
    × (home_of_object caller object ≡ Some caller.own) × (kept.reads object ≡ None)

-- An answer that refuses a command has its cause, by what the client keeps when the command's node is appended, or else when
-- the command is answered.
abbrev pub IsCaused : Lookups → Walked → Caller → Kept → What → Answer → Type 0
IsCaused looks walked caller kept what (answers.StampEnd colour) =
    IsTrue (tells_stamp_end (manner_of what)) × HasEnd looks walked caller kept colour (colours_asked caller kept what)
IsCaused looks walked caller kept what (answers.Full used) =
    IsNoStopAtOnce what × (used ≡ kept.rows) × (kept.rows ≡ caller.rows)
IsCaused looks walked caller kept what answers.SameRegion = (colour : ℕ) × (what ≡ whats.Pull caller.own colour)
IsCaused looks walked caller kept what (answers.Decided commits stamp sync read_stamp raises syncs ended) =
    HasLateEnd walked caller kept what ended
IsCaused looks walked caller kept what answers.NoTx = HasNoTx caller kept what
IsCaused looks walked caller kept what (answers.Trimmed colour base) = IsTrimmed (log_walked walked) caller kept colour base
IsCaused looks walked caller kept what (answers.NotHome home) = (home_asked caller what ≡ Some home) × (caller.own ≢ home)
IsCaused looks walked caller kept what _ = Unit {0}

-- what is asked of a step
pub record HasItsCause (looks : Lookups) (walked : Walked) (caller : Caller) (step : Step) : Type 0 where
  pub caused : IsCaused looks walked caller (kept_appending (log_walked walked) caller (kept_at step) step.reply.answer)
      step.command.what step.reply.answer
  pub room : IsTrue (began_row caller step) → (kept_at step).rows < caller.rows
  pub away : IsAway caller (home_asked caller step.command.what) → IsHomeRefusal step.reply.answer

-- the colour that the end of a decision names is one of so many
abbrev pub HasLowEnd : ℕ → Ended → Type 0
HasLowEnd colours (ends.StampEnd colour) = colour < colours
HasLowEnd colours _ = Unit {0}

-- and so is the one that a refusal names
abbrev pub HasLowColour : ℕ → Answer → Type 0
HasLowColour colours (answers.StampEnd colour) = colour < colours
HasLowColour colours (answers.Decided commits stamp sync read_stamp raises syncs ended) = HasLowEnd colours ended
HasLowColour colours (answers.Trimmed colour base) = colour < colours
HasLowColour colours _ = Unit {0}

-- THE RULE

-- At the account by which reports are judged from the tenth rule on, where it keeps the rules before, each step has its cause
-- where the eleventh holds.
abbrev pub EleventhIsCauses : Type 0
EleventhIsCauses = (script : Script) (report : Report) → IsFitting script → IsWellFormed script report
    → RulesTo script report (account_showing script report) 10
    → OfEachStep script report (account_of script report no_nodes)
    (HasItsCause (lookups_of report) (record { script = script; report = report }))
    ↔ Rule11 script report (account_showing script report)
