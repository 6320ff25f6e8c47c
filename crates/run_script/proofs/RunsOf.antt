-- What the words ask for, and the report of a run that they ask for.
use Rattle.std.proofs.Common.{◌≡◌, ℕ, List, Option, Some, sym, ◌∙◌}
use Rattle.script_text.specs.declared.script.Script.{Script}
use Rattle.script_text.specs.Grammar.{IsScript}
use Rattle.script_text.specs.Laws.{RowsAreWithinLimits}
use Rattle.script_text.proofs.CallerLemmas.{one_script, script_fits}
use Rattle.script_text.proofs.CallerLemmas.{some_rows}
use Rattle.script_beside.specs.declared.dealt.DealtScript.{DealtScript}
use Rattle.script_beside.specs.Dealt.{IsDealt}
use Rattle.report_text.specs.declared.report.Report.{Report}
use Rattle.lawful_run.specs.Lawful.{LawfulRun}
use Rattle.script_meaning.specs.Laws.{ScriptsStopLast}
use Rattle.script_meaning.specs.Meaning.{IsStepReport, FindsMemory, step_report}
use Rattle.run_script.specs.declared.asked.Asked.{Asked}
use Rattle.run_script.specs.declared.asked.Asked.TheVariants.{Step, Run}
use Rattle.run_script.specs.declared.asked.Task.{Task}
use Rattle.run_script.specs.declared.asked.Task.TheVariants as tasks
use Rattle.run_check.specs.Refusals.{IsTheScript}
use Rattle.run_script.specs.Running.{CanRun}
use Rattle.run_script.specs.TopCall.{IsRunOf}

-- what was read from the words is what they ask for
module _ (result words : Option Task) (same : result ≡ words) where
  pub same_asked : (found wanted : Asked) → result ≡ Some (tasks.Script found) → words ≡ Some (tasks.Script wanted)
      → found ≡ wanted
  same_asked found wanted read asks =
      let both : Some (tasks.Script found) ≡ Some (tasks.Script wanted) = sym read ∙ (same ∙ asks) in cc (both)

pub run_in_file : (script : Script) (report : Report) → IsStepReport script report → LawfulRun script report
    → (FindsMemory report → report ≡ step_report script) → IsRunOf Step script report
run_in_file script report in_order lawful exact = record {
  lawful = lawful;
  in_order = λ e. record { in_order = in_order; exact = exact };
}

pub run_on_threads : (script : Script) (report : Report) → LawfulRun script report → IsRunOf Run script report
run_on_threads script report lawful = record {
  lawful = lawful;
  in_order = λ e. absurd (let f : ⊥ = cc (e) in f);
}

-- WHAT WAS READ ON THREADS

pub the_script : (bytes : List ℕ) (script : Script) → IsScript bytes script → IsTheScript bytes script
the_script bytes script is = record { is = is; only = λ other too. one_script bytes script other is too }

pub can_run : RowsAreWithinLimits → ScriptsStopLast → (bytes : List ℕ) (script : Script) (dealt : DealtScript)
    → IsScript bytes script → IsDealt script dealt → CanRun script dealt
can_run within stop bytes script dealt is given = record {
  is = given;
  fits = script_fits bytes script is;
  rows = within bytes script is;
  some_rows = some_rows bytes script is;
  stops = stop bytes script is;
}
