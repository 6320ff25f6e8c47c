use Rattle.std.proofs.Common.{◌≡◌, ◌∙◌, ℕ, List, length, arith, ap, subst, sym}
use Rattle.std.proofs.lemmas.List.{take_all}
use Rattle.std.proofs.lemmas.Result.{IfOk-weaker}
use Rattle.script_text.specs.declared.script.Command.{Command}
use Rattle.report_text.specs.declared.report.Report.{Report}
use Rattle.lawful_run.specs.Lawful.{LawfulRun}
use Rattle.world_laws.specs.Worlds.{World}
use Rattle.world_code.specs.WorldView.{world_of}
use Rattle.script_meaning.specs.Meaning.{LeadTo, report_of, IsStepReport, FindsMemory, step_report}
use Rattle.script_meaning.proofs.CallerLemmas.{lead_shape}
use Rattle.script_in_order.specs.Runs.{RunView, state_of, IsRunAt}
use Rattle.script_in_order.proofs.RunSteps.{opens}
use Rattle.script_in_order.proofs.in_order.run_in_order.Goals as goal

pub loop-place-init : goal.loop-place-init
loop-place-init c = (
  opens c.args.script.now c.in_ok-world.world c.in_ok-replies.replies.items c.in_ok-world.ensures
      c.in_ok-replies.ensures,
  c.in_ok-folds.ensures (world_of c.in_ok-world.world) (ap (λ (x : World). x.shape) c.in_ok-world.ensures),
)

pub report-requires-clause-shape : goal.report-requires-clause-shape
report-requires-clause-shape c = lead_shape c.args.script.now c.loop-place.invariant.0.leads

pub returns : goal.returns
returns c =
    let script = c.args.script.now in
    let code : RunView = record { world = c.loop-place.world; replies = c.loop-place.replies.items } in
    let all : c.loop-place.place ≡ length script.commands =
    omega (arith, c.len-place-end.ensures, c.loop-place-test.false, c.loop-place.auto.place-end) in
    let run = subst (λ (k : ℕ). IsRunAt script k code) all c.loop-place.invariant.0 in
    let leads : LeadTo script script.commands (state_of code) =
    subst (λ (l : List Command). LeadTo script l (state_of code)) (take_all (length script.commands) script.commands
    (omega arith)) run.leads in
    let shown = c.report.ensures in record {
      ok = IfOk-weaker c.report.result (λ (r : Report). r ≡ report_of script (state_of code)) (IsStepReport script)
          (λ r e. record { state = state_of code; leads = leads; shown = e }) shown;
      lawful = IfOk-weaker c.report.result (λ (r : Report). r ≡ report_of script (state_of code)) (LawfulRun script)
          (λ r e. subst (LawfulRun script) (sym e)
          (c.runs_are_lawful.ensures script c.requires.fits c.requires.stops (state_of code) leads))
          shown;
      exact = IfOk-weaker c.report.result (λ (r : Report). r ≡ report_of script (state_of code))
          (λ (r : Report). FindsMemory r → r ≡ step_report script)
          (λ r e grants. e ∙ c.runs_are_exact.ensures script c.requires.fits c.requires.stops
          (state_of code) leads
          (subst FindsMemory e grants)) shown;
    }
