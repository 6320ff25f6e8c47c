-- What the top call writes for the bytes that it reads.
use Rattle.std.specs.Prelude.{◌≡◌, ◌⊎◌, ℕ, List, ◌++◌, Option, IfSome}
use Rattle.std.specs.Io.KnownBytes.{Appends}
use Rattle.fuzzy_io.specs.Causes.{AppendsFront}
use Rattle.script_text.specs.declared.script.Script.{Script}
use Rattle.script_text.specs.declared.script.Reason.{Reason}
use Rattle.script_text.specs.Words.{reason_text}
use Rattle.report_text.specs.declared.report.Report.{Report}
use Rattle.report_text.specs.ReportText.{report_bytes, refusal_bytes}
use Rattle.lawful_run.specs.Lawful.{LawfulRun}
use Rattle.script_meaning.specs.Meaning.{IsStepReport, FindsMemory, step_report}
use Rattle.load_script.specs.Generated.{load_script}
use Rattle.load_script.specs.Plain.{IsUnwanting}
use Rattle.load_script.specs.Summing.{load_summary, shown_summary, summary_text}
use Rattle.run_check.specs.declared.verdict.Verdict.{Verdict}
use Rattle.run_check.specs.declared.verdict.Verdict.TheVariants as verdicts
use Rattle.run_check.specs.Refusals.{IsTheScript, IsRefusedFor}
use Rattle.run_check.specs.Verdicts.{IsVerdict, verdict_text}
use Rattle.run_script.specs.declared.asked.Asked.{Asked}
use Rattle.run_script.specs.declared.asked.Asked.TheVariants.{Step}
use Rattle.run_script.specs.declared.status.Status.{Status}
use Rattle.run_script.specs.declared.status.Status.TheVariants.{Done, Refused, Unlawful}

-- The report is that of a script done in the order of the file; where no reply and no mark tells of want of memory, it is
-- the one report that this means.
pub record IsDoneInOrder (script : Script) (report : Report) : Type 0 where
  pub in_order : IsStepReport script report
  pub exact : FindsMemory report → report ≡ step_report script

-- The report is that of a lawful run of the script, whatever the words ask; where they ask for the order of the file, of
-- the run in that order.
pub record IsRunOf (asked : Asked) (script : Script) (report : Report) : Type 0 where
  pub lawful : LawfulRun script report
  pub in_order : asked ≡ Step → IsDoneInOrder script report

-- The bytes are one script alone, and the text is that of a report of its run.
pub record IsRunText (asked : Asked) (bytes text : List ℕ) : Type 0 where
  pub script : Script
  pub report : Report
  pub read : IsTheScript bytes script
  pub run : IsRunOf asked script report
  pub shown : text ≡ report_bytes report

-- The bytes are no script, and the text is the line that says why.
pub record IsRefusalText (bytes text : List ℕ) : Type 0 where
  pub line : ℕ
  pub why : Reason
  pub refused : IsRefusedFor bytes line why
  pub shown : text ≡ refusal_bytes line (reason_text why)

-- Such a text of some bytes was written whole; where the source tells what was left, these are the bytes.
abbrev pub WritesWhole : (List ℕ → List ℕ → Type 0) → Option (List ℕ) → Option (List ℕ) → Option (List ℕ) → Type 0
WritesWhole IsText left old new =
    (bytes text : List ℕ) × IfSome left (λ all. all ≡ bytes) × IsText bytes text × Appends old new text

-- the beginning of such a text was written
abbrev pub WritesFront : Asked → Option (List ℕ) → Option (List ℕ) → Option (List ℕ) → Type 0
WritesFront asked left old new =
    (bytes front rest : List ℕ) × IfSome left (λ all. all ≡ bytes)
    × (IsRunText asked bytes (front ++ rest) ⊎ IsRefusalText bytes (front ++ rest)) × Appends old new front

-- the text of a report of the script's run was written whole
abbrev pub Shows : Asked → Script → Option (List ℕ) → Option (List ℕ) → Type 0
Shows asked script old new = (report : Report) × IsRunOf asked script report × Appends old new (report_bytes report)

-- the beginning of such a text was written
abbrev pub ShowsFront : Asked → Script → Option (List ℕ) → Option (List ℕ) → Type 0
ShowsFront asked script old new =
    (report : Report) × IsRunOf asked script report × AppendsFront old new (report_bytes report)

-- There is a lawful run of the script of a load of so many rounds in which no command found want of memory, and its report
-- shows the load's summary.
pub record IsLoaded (count : ℕ) : Type 0 where
  pub report : Report
  pub lawful : LawfulRun (load_script count) report
  pub unwanting : IsUnwanting report
  pub shown : shown_summary count report ≡ load_summary count

-- a load was done, and its summary was written whole
abbrev pub WritesLoad : ℕ → Option (List ℕ) → Option (List ℕ) → Type 0
WritesLoad count old new = IsLoaded count × Appends old new (summary_text (load_summary count))

-- a load was done, and the beginning of its summary was written
abbrev pub WritesLoadFront : ℕ → Option (List ℕ) → Option (List ℕ) → Type 0
WritesLoadFront count old new = IsLoaded count × AppendsFront old new (summary_text (load_summary count))

-- JUDGING A REPORT

-- the status that goes with a verdict
abbrev pub status_of : Verdict → Status
status_of verdicts.Lawful = Done
status_of (verdicts.Broken rule) = Unlawful
status_of _ = Refused

-- the statuses that go with verdicts
abbrev pub TellsVerdict : Status → Type 0
TellsVerdict status = (status ≡ Done) ⊎ (status ≡ Refused) ⊎ (status ≡ Unlawful)

-- the status is that of a verdict on these bytes, and the whole line that says it was written
abbrev pub Says : Status → List ℕ → Option (List ℕ) → Option (List ℕ) → Type 0
Says status bytes old new =
    (verdict : Verdict) × IsVerdict bytes verdict × (status ≡ status_of verdict) × Appends old new (verdict_text verdict)

-- the beginning of such a line was written
abbrev pub SaysFront : List ℕ → Option (List ℕ) → Option (List ℕ) → Type 0
SaysFront bytes old new = (verdict : Verdict) × IsVerdict bytes verdict × AppendsFront old new (verdict_text verdict)

-- it is so of some bytes; where the source tells what was left, these are the bytes
abbrev pub OfAll : Option (List ℕ) → (List ℕ → Type 0) → Type 0
OfAll left P = (bytes : List ℕ) × IfSome left (λ all. all ≡ bytes) × P bytes
