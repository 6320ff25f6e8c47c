-- The script of a load can be run on threads, and what its run shows.
use Rattle.std.proofs.Common.{◌≡◌, ℕ, ◌<◌, ◌≤◌, false, refl, sym, subst, arith}
use Rattle.std.specs.List.{All}
use Rattle.script_text.specs.declared.commands.What.{What}
use Rattle.script_text.specs.declared.commands.What.TheVariants as whats
use Rattle.script_text.specs.declared.script.Command.{Command}
use Rattle.script_text.specs.declared.script.Script.{Script}
use Rattle.script_text.specs.Items.{is_stop}
use Rattle.script_text.specs.Fitting.{IsFitting}
use Rattle.script_text.specs.Versions.{limits_in}
use Rattle.script_beside.specs.declared.dealt.DealtScript.{DealtScript}
use Rattle.script_beside.specs.Dealt.{IsDealt}
use Rattle.script_meaning.specs.States.{StopsAreLast}
use Rattle.load_script.specs.declared.script.TheConstants.{MAX_LOAD}
use Rattle.load_script.specs.Generated.{load_script}
use Rattle.load_script.specs.Plain.{IsPlainWhat, IsUnwanting}
use Rattle.load_script.specs.Laws.{LoadsFit, LoadsComeToTheirSummary}
use Rattle.report_text.specs.declared.report.Report.{Report}
use Rattle.lawful_run.specs.Lawful.{LawfulRun}
use Rattle.run_script.specs.Running.{CanRun}
use Rattle.run_script.specs.TopCall.{IsLoaded}

-- a command of a load is no stop
no_stop : (what : What) → IsPlainWhat what → is_stop what ≡ false
no_stop (whats.Stop steps colours text) p = absurd p
no_stop _ p = refl

pub load_can_run : LoadsFit → (count : ℕ) → count ≤ MAX_LOAD → (script : Script) → script ≡ load_script count
    → (dealt : DealtScript) → IsDealt script dealt → CanRun script dealt
load_can_run fit count le script same dealt is = record {
  is = is;
  fits = subst IsFitting (sym same) (fit count le).0;
  rows = subst (λ (s : Script). s.shape.rows ≤ (limits_in s.version).rows) (sym same) (omega arith);
  some_rows = subst (λ (s : Script). 0 < s.shape.rows) (sym same) (omega arith);
  stops = subst StopsAreLast (sym same) (λ i j d lt within stop.
      absurd (let f = no_stop _ (plain i d (omega (arith, lt, within))) in let g : ⊥ = cc (f, stop) in g));
} where
  plain : All (λ (c : Command). IsPlainWhat c.what) (let s : Script = load_script count in s.commands)
  plain = (fit count le).1.plain

-- a run that found memory is one of the load
pub loaded : LoadsFit → LoadsComeToTheirSummary → (count : ℕ) → count ≤ MAX_LOAD → (script : Script) → script ≡ load_script count
    → (dealt : DealtScript) → IsDealt script dealt → (report : Report)
    → ((other : Script) → CanRun other dealt → LawfulRun other report) → IsUnwanting report → IsLoaded count
loaded fit come count le script same dealt is report lawful found =
    let of : LawfulRun (load_script count) report =
    subst (λ (s : Script). LawfulRun s report) same (lawful script (load_can_run fit count le script same dealt is)) in
    record { report = report; lawful = of; unwanting = found; shown = come count report le of found }
