-- What is said of a script and its report, and the line that says it.
use Rattle.std.specs.Prelude.{◌≡◌, ℕ, ◌+◌, ◌<◌, ◌≤◌, Bool, ◌||◌, List, [], ◌∷◌, ◌++◌, length, take, drop, Option, Some, None, codes, decimal, if◌then◌else◌}
use Rattle.std.specs.Option.{option_map}
use Rattle.std.specs.Str.{bytes_eq}
use Rattle.script_text.specs.declared.script.Script.{Script}
use Rattle.script_text.specs.Pieces.{lines_of}
use Rattle.script_text.specs.Words.{reason_text}
use Rattle.report_text.specs.declared.report.ReplyLine.{ReplyLine}
use Rattle.report_text.specs.declared.report.Report.{Report}
use Rattle.report_text.specs.Pieces.{line_end}
use Rattle.report_text.specs.ReportText.{refusal_bytes, report_bytes}
use Rattle.report_reading.specs.Meant.{IsReportOf}
use Rattle.lawful_run.specs.Lawful.{LawfulRun}
use Rattle.run_rules.specs.Keeping.{HidesNothing, IsLeastBroken, first_hidden}
use Rattle.run_check.specs.declared.verdict.Verdict.{Verdict}
use Rattle.run_check.specs.declared.verdict.Verdict.TheVariants.{NoScript, Missing, TooLong, BadForm, Hidden, Broken, Lawful}
use Rattle.run_check.specs.declared.checking.TheConstants.{MAX_REPORT}
use Rattle.run_check.specs.Refusals.{IsRefusedFor, IsTheScript}

-- WHERE THE REPORT BEGINS

-- a line with which a report begins
abbrev pub begins_report : List ℕ → Bool
begins_report line = bytes_eq line (codes "report 1") || bytes_eq line (codes "report 2")

-- how many bytes stand before the first such line
abbrev pub bytes_before : List (List ℕ) → Option ℕ
bytes_before [] = None
bytes_before (line ∷ lines) =
    if begins_report line then Some 0 else option_map (λ n. length line + 1 + n) (bytes_before lines)

-- the same of the lines of a text; none where no line begins a report
abbrev pub report_start : List ℕ → Option ℕ
report_start bytes = bytes_before (lines_of bytes)

-- THE VERDICT

-- the bytes are the text of this report of the script, and of no other
pub record IsTheReport (script : Script) (bytes : List ℕ) (report : Report) : Type 0 where
  pub is : IsReportOf script report
  pub text : report_bytes report ≡ bytes
  pub only : (other : Report) → IsReportOf script other → report_bytes other ≡ bytes → report ≡ other

-- one text is a script, the other is given, and so it is of these
abbrev pub OfText : List ℕ → Option (List ℕ) → (Script → List ℕ → Type 0) → Type 0
OfText before given P =
    (script : Script) × (text : List ℕ) × IsTheScript before script × (given ≡ Some text) × P script text

-- one text is a script, the other a report of it that is not too long, and so it is of these
abbrev pub OfReport : List ℕ → Option (List ℕ) → (Script → Report → Type 0) → Type 0
OfReport before given P = OfText before given (λ script text.
    (report : Report) × (length text ≤ MAX_REPORT) × IsTheReport script text report × P script report)

-- the first reply that hides what was done is to the command in this line
abbrev pub HidesAt : Report → ℕ → Type 0
HidesAt report line = (reply : ReplyLine) × (first_hidden report ≡ Some reply) × (line ≡ reply.line)

-- What is said of a text that should be a script, and of the report's text, if there is one.
abbrev pub IsVerdictOf : List ℕ → Option (List ℕ) → Verdict → Type 0
IsVerdictOf before given (NoScript line why) = IsRefusedFor before line why
IsVerdictOf before given Missing = (script : Script) × IsTheScript before script × (given ≡ None)
IsVerdictOf before given TooLong = OfText before given (λ script text. MAX_REPORT < length text)
IsVerdictOf before given BadForm = OfText before given (λ script text.
    (length text ≤ MAX_REPORT) × ((report : Report) → IsReportOf script report → report_bytes report ≡ text → ⊥))
IsVerdictOf before given (Hidden line) = OfReport before given (λ script report. HidesAt report line)
IsVerdictOf before given (Broken rule) = OfReport before given (λ script report.
    HidesNothing report × IsLeastBroken script report rule × (LawfulRun script report → ⊥))
IsVerdictOf before given Lawful = OfReport before given (λ script report. HidesNothing report × LawfulRun script report)

-- the same of one text, by where its report begins
abbrev pub IsVerdictFrom : Option ℕ → List ℕ → Verdict → Type 0
IsVerdictFrom None bytes verdict = IsVerdictOf bytes None verdict
IsVerdictFrom (Some start) bytes verdict = IsVerdictOf (take start bytes) (Some (drop start bytes)) verdict

-- What is said of a text that has a script and, from the first line on that begins one, its report.
abbrev pub IsVerdict : List ℕ → Verdict → Type 0
IsVerdict bytes verdict = IsVerdictFrom (report_start bytes) bytes verdict

-- THE LINE

-- the line of what is wrong with a report
abbrev pub report_refusal : List ℕ → List ℕ
report_refusal why = codes "refused: report: " ++ why ++ line_end

-- the line that says the verdict
abbrev pub verdict_text : Verdict → List ℕ
verdict_text (NoScript line why) = refusal_bytes line (reason_text why)
verdict_text Missing = report_refusal (codes "missing")
verdict_text TooLong = report_refusal (codes "too long")
verdict_text BadForm = report_refusal (codes "bad form")
verdict_text (Hidden line) = report_refusal (codes "hidden at line " ++ decimal line)
verdict_text (Broken rule) = codes "broken L" ++ decimal rule ++ line_end
verdict_text Lawful = codes "lawful" ++ line_end
