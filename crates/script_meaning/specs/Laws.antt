-- What the runs in the order of the file have for consequences.
use Rattle.std.specs.Prelude.{◌≡◌, ℕ, List}
use Rattle.script_text.specs.declared.script.Script.{Script}
use Rattle.script_text.specs.Grammar.{IsScript}
use Rattle.script_text.specs.Fitting.{IsFitting}
use Rattle.lawful_run.specs.Lawful.{LawfulRun}
use Rattle.script_meaning.specs.States.{State, StopsAreLast}
use Rattle.script_meaning.specs.Meaning.{LeadTo, report_of, step_report, FindsMemory}

-- For every fitting script whose stops are the last commands of their clients: the report of each state to which its
-- commands lead is that of a lawful run.
abbrev pub RunsAreLawful : Type 0
RunsAreLawful =
    (script : Script) → IsFitting script → StopsAreLast script → (state : State)
    → LeadTo script script.commands state → LawfulRun script (report_of script state)

-- Of such a script, where no reply and no mark tells of want of memory, the report is the one of the commands done one
-- after another with memory granted everywhere.
abbrev pub RunsAreExact : Type 0
RunsAreExact =
    (script : Script) → IsFitting script → StopsAreLast script → (state : State)
    → LeadTo script script.commands state → FindsMemory (report_of script state) → report_of script state ≡ step_report script

-- What is read as a script has no command of a client after its stop.
abbrev pub ScriptsStopLast : Type 0
ScriptsStopLast = (bytes : List ℕ) (script : Script) → IsScript bytes script → StopsAreLast script
