-- What the program writes for the words that it is given and the bytes that it reads.
use Rattle.std.specs.Prelude.{◌≡◌, ℕ, List, Option, Some, None, IfSome}
use Rattle.std.specs.Io.KnownBytes.{Appends}
use Rattle.script_text.specs.declared.script.Script.{Script}
use Rattle.script_text.specs.Grammar.{IsScript}
use Rattle.report_text.specs.declared.report.Report.{Report}
use Rattle.lawful_run.specs.Lawful.{LawfulRun}
use Rattle.script_meaning.specs.Meaning.{IsStepReport}
use Rattle.run_picture.specs.declared.asked.Drawing.{Drawing}
use Rattle.run_picture.specs.declared.top.Status.{Status}
use Rattle.run_picture.specs.declared.top.Status.TheVariants.{Done, BadWords, Refused, ReadFault, WriteFault, NoMemory}
use Rattle.run_picture.specs.Drawn.{drawing_text}

-- 0 to 5, as the program `fuzzy_run` ends
abbrev pub code_of : Status → ℕ
code_of Done = 0
code_of BadWords = 1
code_of Refused = 2
code_of ReadFault = 3
code_of WriteFault = 4
code_of NoMemory = 5

-- a report of the script, run in the order of the file
pub record IsReportOf (script : Script) (report : Report) : Type 0 where
  pub in_order : IsStepReport script report
  pub lawful : LawfulRun script report

-- the drawing of such a report was written whole
abbrev pub ShowsDrawing : Drawing → Script → Option (List ℕ) → Option (List ℕ) → Type 0
ShowsDrawing drawing script old new =
    (report : Report) × IsReportOf script report × Appends old new (drawing_text drawing script report)

-- The bytes are a script, and the drawing of its run was written whole; where the source tells what was left, these are
-- the bytes.
abbrev pub Draws : Drawing → Option (List ℕ) → Option (List ℕ) → Option (List ℕ) → Type 0
Draws drawing left old new =
    (bytes : List ℕ) × (script : Script) × IfSome left (λ all. all ≡ bytes) × IsScript bytes script
    × ShowsDrawing drawing script old new

-- a drawing was asked for, and it was written
abbrev pub DrawsAsAsked : Option Drawing → Option (List ℕ) → Option (List ℕ) → Option (List ℕ) → Type 0
DrawsAsAsked None left old new = ⊥
DrawsAsAsked (Some drawing) left old new = Draws drawing left old new
