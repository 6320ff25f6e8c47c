-- A walk over the commands of a report's clients, each with its reply and with what its client keeps then.
--
-- A pass over it is a type that is a `Check` (`src/walking.rt`). Its ghost member `Asks` says what it asks of a step. Its method
-- `go_on` decides that of one step, and goes on behind it where it holds: by the keeping, which counts what the client keeps when
-- the command is answered, and by what the subject looks up. What may be used of the step is `IsSeen`; what is kept goes on by
-- parts (`src/going_on.rt`, `src/behind.rt`). `each_step` then decides it of all steps, at the account of whatever nodes; `walk`
-- goes over the steps of one client, and has what that one keeps in the end.
use Rattle.std.specs.Prelude.{◌≡◌, Bool, true, false, ℕ, ◌<◌, ◌^◌, List, length, map, Option, Some, None, slice_get}
use Rattle.std.specs.List.{All}
use Rattle.log_node.specs.declared.node.Node.{Node}
use Rattle.col_core.specs.declared.Entry.{Entry}
use Rattle.col_core.specs.Log.{Log}
use Rattle.script_text.specs.Fitting.{IsFitting}
use Rattle.script_text.specs.declared.script.Script.{Script}
use Rattle.report_text.specs.declared.report.Report.{Report}
use Rattle.lawful_run.specs.Callers.{Caller, caller_of, commands_of}
use Rattle.column_track.specs.Tracks.{Tells, Tracked}
use Rattle.run_rules.specs.Told.{OfEachStep, Step, kept_at, kept_past}
use Rattle.run_rules.specs.Telling.{IsWellFormed, account_of, journal_among, log_of, no_nodes, places_shown, replies_to, untold_told}
use Rattle.run_rules.specs.Rules.{IsReplyTo, Rule1, Rule2, Rule3}
use Rattle.walk_law.specs.Journals.{track_shown}
use Rattle.walk_law.specs.Keepings.{Counted, IsCounted}

-- what is walked over
pub record Walked : Type 0 where
  pub script : Script
  pub report : Report

-- A well formed report of a script that fits keeps the first three rules, and these are the tracks of its columns.
pub record MayWalk (script : Script) (report : Report) (tracks : List Tracked) : Type 0 where
  pub fitting : IsFitting script
  pub formed : IsWellFormed script report
  pub first : Rule1 script report (account_of script report no_nodes)
  pub second : Rule2 script report
  pub third : Rule3 script (account_of script report no_nodes)
  pub tracks_are : tracks ≡ map (track_shown script.shape.regions) report.columns

-- the log that is walked over, without nodes
abbrev pub log_walked : Walked → Log
log_walked walked = log_of walked.report no_nodes

-- the journal of a column
abbrev pub journal_walked : Walked → ℕ → ℕ → List Entry
journal_walked walked = journal_among walked.report.columns

-- the places that a client's replies print, by column
abbrev pub places_printed : Walked → ℕ → ℕ → ℕ → List ℕ
places_printed walked = places_shown walked.script walked.report

-- The step of a client in this place, of which the keeping counts what the client keeps when the command is answered.
pub record IsSeen (walked : Walked) (client place : ℕ) (counted : Counted) (step : Step) : Type 0 where
  pub command : slice_get (commands_of walked.script client) place ≡ Some step.command
  pub reply : slice_get (replies_to walked.report client) place ≡ Some step.reply
  pub untold : step.untold ≡ untold_told (log_walked walked) (caller_of walked.script client) (places_printed walked client)
      (kept_at step) step.command.what step.reply.answer
  pub kept : IsCounted (replies_to walked.report client) (kept_at step) counted
  pub can : IsReplyTo (caller_of walked.script client) step

-- the client is one of the report's, and has a command in this place
pub record IsStepOf (walked : Walked) (client place : ℕ) : Type 0 where
  pub walker : client < length walked.report.clients
  pub there : place < length (commands_of walked.script client)

-- few ids and rows are used, so that one more is no overflow
pub record HasFew (counted : Counted) : Type 0 where
  pub ids : counted.ids < 2 ^ 32
  pub rows : counted.rows < 2 ^ 32

-- the keeping counts what the client keeps behind the step
abbrev pub CountsBehind : Walked → ℕ → Step → Counted → Type 0
CountsBehind walked client step counted =
    IsCounted (replies_to walked.report client) (kept_past (log_walked walked) (caller_of walked.script client) step) counted

-- what is asked holds, and the keeping is that behind the step; or it does not hold
abbrev pub GoesOn : Walked → ℕ → Step → Type 0 → Counted → Bool → Type 0
GoesOn walked client step Asked counted true = Asked × CountsBehind walked client step counted
GoesOn walked client step Asked counted false = Asked → ⊥

-- all steps of a client are as is asked, and it keeps this in the end; or some step is not
abbrev pub WalksTo : Walked → ℕ → (Step → Type 0) → Option Counted → Type 0
WalksTo walked client Asked None = All Asked ((account_of walked.script walked.report no_nodes).steps client) → ⊥
WalksTo walked client Asked (Some counted) =
    All Asked ((account_of walked.script walked.report no_nodes).steps client)
    × IsCounted (replies_to walked.report client) ((account_of walked.script walked.report no_nodes).last client) counted

-- of each step of each client, at the account of whatever nodes
abbrev pub DecidesEachStep : Walked → (Caller → Step → Type 0) → Bool → Type 0
DecidesEachStep walked Asks answer = (nodes : ℕ → List Node)
    → Tells answer (OfEachStep walked.script walked.report (account_of walked.script walked.report nodes) Asks)
