-- The twelfth rule rests on what clients keep and on the columns alone, so that no nodes are looked at.
use Rattle.std.specs.Prelude.{◌≡◌, ◌≢◌, ◌⊎◌, ◌↔◌, ℕ, ◌+◌, ◌-◌, ◌*◌, ◌<◌, ◌≤◌, List, length, map, take, Some, slice_get, slice_index}
use Rattle.std.specs.List.{All, range_with_len}
use Rattle.log_node.specs.declared.node.At.TheVariants.{Event}
use Rattle.log_node.specs.Vectors.{at}
use Rattle.col_core.specs.declared.Event as events
use Rattle.col_core.specs.declared.Event.TheVariants.{Single, Propose, Settle, Raise, Give, Carry, Trim}
use Rattle.col_core.specs.declared.Entry.{Entry}
use Rattle.col_core.specs.History.{entries, line, open_count}
use Rattle.col_core.specs.Log.{Log}
use Rattle.col_core.specs.Keeping.{Kept}
use Rattle.script_text.specs.Fitting.{IsFitting}
use Rattle.script_text.specs.declared.commands.What.{What}
use Rattle.script_text.specs.declared.commands.What.TheVariants as whats
use Rattle.script_text.specs.declared.script.Script.{Script}
use Rattle.report_text.specs.declared.report.Answer.{Answer}
use Rattle.report_text.specs.declared.report.Answer.TheVariants as answers
use Rattle.report_text.specs.declared.report.ColumnReport.{ColumnReport}
use Rattle.report_text.specs.declared.report.PointPiece.{PointPiece}
use Rattle.report_text.specs.declared.report.Report.{Report}
use Rattle.lawful_run.specs.Callers.{Caller}
use Rattle.lawful_run.specs.Asks.{Guarding}
use Rattle.lawful_run.specs.Deeds.{manner_of}
use Rattle.run_rules.specs.Told.{Step, kept_at}
use Rattle.run_rules.specs.Telling.{IsWellFormed, account_of, no_nodes}
use Rattle.run_rules.specs.Deciding.{account_showing}
use Rattle.run_rules.specs.Keeping.{RulesTo}
use Rattle.run_rules.specs.Shown.{Rule12}
use Rattle.walk_law.specs.PlaceTables.{places_at}
use Rattle.column_track.specs.Tracks.{Tracked}
use Rattle.walk_law.specs.Walking.{Walked, log_walked}

-- OPEN ENTRIES

-- so many entries are open behind an event of a lawful history, where so many were before it
abbrev pub open_behind : ℕ → events.Event → ℕ
open_behind before (Single id floor wants) = before
open_behind before (Propose id floor wants) = before + 1
open_behind before (Settle id outcome) = before - 1
open_behind before (Raise to) = before
open_behind before (Give region from) = before
open_behind before (Carry region start heads) = before
open_behind before (Trim counts) = before

-- how many are open after the first numbers of events
abbrev pub opens_to : List Entry → ℕ → List ℕ
opens_to history count = map (λ n. open_count (entries (take n history))) (range_with_len 0 count)

-- after each number of events
abbrev pub opens_of : List Entry → List ℕ
opens_of history = opens_to history (length history + 1)

-- how many are open in a column after so many events, as is looked up
abbrev pub Opening : Type 0
Opening = ℕ → ℕ → ℕ → ℕ

-- in a table of all columns, by region and colour
abbrev pub open_in : ℕ → List (List ℕ) → Opening
open_in colours lists region colour events = slice_index (places_at lists (region * colours + colour)) events

-- those of all columns, in their order
abbrev pub opens_in : List ColumnReport → List (List ℕ)
opens_in columns = map (λ (c : ColumnReport). opens_of c.journal) columns

-- the tracks are of these columns' journals
pub record AreOfColumns (columns : List ColumnReport) (tracks : List Tracked) : Type 0 where
  pub many : length tracks ≡ length columns
  pub each : (n : ℕ) (c : ColumnReport) (t : Tracked) → slice_get columns n ≡ Some c → slice_get tracks n ≡ Some t
      → t.journal ≡ c.journal

-- STEPS

-- After so many events, no fewer than were seen, the own line has this length, and so many entries are open, as is looked up.
pub record IsLong (opens : Opening) (log : Log) (caller : Caller) (kept : Kept) (colour events lined waiting : ℕ) : Type 0 where
  pub unseen : kept.seen caller.own colour ≤ events
  pub there : events ≤ length (log.histories caller.own colour)
  pub lined_is : lined ≡ length (line (take events (log.histories caller.own colour)))
  pub waiting_is : waiting ≡ opens caller.own colour events

-- right before the event of the point no entry was open, and the line was as long as the client has played
abbrev pub WasFirst : Opening → Log → Caller → Kept → PointPiece → Type 0
WasFirst opens log caller kept point =
    (place : ℕ) × (point.at ≡ Event place) × IsLong opens log caller kept point.colour place point.position 0
    × (point.position ≡ at (kept.starts point.colour) caller.own)

-- an append that may only stand next was refused, since something had come between
pub record HasMoved (opens : Opening) (log : Log) (caller : Caller) (kept : Kept) (what : What)
    (lined waiting colour events : ℕ) : Type 0 where
  pub asks : (text : List ℕ) × (what ≡ whats.Only colour text)
  pub long : IsLong opens log caller kept colour events lined waiting
  pub moved : (waiting ≢ 0) ⊎ (lined ≢ at (kept.starts colour) caller.own)

-- it stands next, or is refused so
abbrev pub StandsFirst : Opening → Log → Caller → Kept → What → Answer → Type 0
StandsFirst opens log caller kept what (answers.Stood stamp row points) =
    manner_of what ≡ Guarding → All (WasFirst opens log caller kept) points
StandsFirst opens log caller kept what (answers.Moved lined waiting colour events) =
    HasMoved opens log caller kept what lined waiting colour events
StandsFirst opens log caller kept what _ = Unit {0}

-- what is asked of a step
abbrev pub IsGuarded : Opening → Walked → Caller → Step → Type 0
IsGuarded opens walked caller step =
    StandsFirst opens (log_walked walked) caller (kept_at step) step.command.what step.reply.answer

-- the colours that an answer names are among so many
abbrev pub HasLowPoints : ℕ → Answer → Type 0
HasLowPoints colours (answers.Stood stamp row points) = All (λ (p : PointPiece). p.colour < colours) points
HasLowPoints colours (answers.Moved lined waiting colour events) = colour < colours
HasLowPoints colours _ = Unit {0}

-- THE RULE

-- At the account by which reports are judged from the tenth rule on, where it keeps the rules before, the twelfth holds where it
-- holds at the one with no nodes.
abbrev pub TwelfthIsBare : Type 0
TwelfthIsBare = (script : Script) (report : Report) → IsFitting script → IsWellFormed script report
    → RulesTo script report (account_showing script report) 10
    → Rule12 script report (account_of script report no_nodes) ↔ Rule12 script report (account_showing script report)
