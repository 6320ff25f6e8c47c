-- After a commit there holds what held before.
use Rattle.std.proofs.Common.{◌≡◌, ℕ, List, [], ◌∷◌, ◌++◌, map, Option, Some, None, refl, ap, sym, subst, ◌∙◌}
use Rattle.std.specs.Prelude.{◌==◌, unwrap_or}
use Rattle.std.specs.Option.{option_map}
use Rattle.std.proofs.lemmas.Bool.{eqb-true, eq-eqb}
use Rattle.log_node.specs.declared.ids.Colours.{Colours}
use Rattle.log_node.specs.declared.forms.Pair.{Pair}
use Rattle.log_node.specs.declared.forms.Version.{Version}
use Rattle.log_node.specs.declared.forms.Form.TheVariants as forms
use Rattle.object_form.specs.Forms.{IsForm, form_text}
use Rattle.object_form.specs.Laws.{ReadsBack}
use Rattle.object_fold.specs.declared.verdict.Verdict.{Verdict}
use Rattle.object_fold.specs.declared.verdict.Verdict.TheVariants.{Committed, Conflict}
use Rattle.object_fold.specs.Transactions.{verdict_of}
use Rattle.col_core.proofs.CallerLemmas.{by_test, apart, In}
use Rattle.world_laws.specs.Worlds.{World, home_of}
use Rattle.world_laws.specs.Laws.{log_of}
use Rattle.world_laws.proofs.CallerLemmas.{in_right}
use Rattle.script_text.specs.declared.script.Object.{Object}
use Rattle.script_text.specs.declared.script.Command.{Command}
use Rattle.script_text.specs.declared.script.Script.{Script}
use Rattle.script_text.specs.declared.commands.What.{What}
use Rattle.script_text.specs.declared.commands.What.TheVariants as whats
use Rattle.script_text.specs.Fitting.{AreObjectColours, is_tx, UsesObject}
use Rattle.report_text.specs.declared.report.Answer.TheVariants as answers
use Rattle.lawful_run.specs.Asks.{home_asked, colours_of_object, keys_of_pairs, object_home}
use Rattle.lawful_run.specs.Asks as asks
use Rattle.lawful_run.specs.Callers.{Caller, caller_of}
use Rattle.lawful_run.specs.Explains.{Explains}
use Rattle.lawful_run.specs.Objects.{shown_verdict}
use Rattle.lawful_run.specs.Refusals.{IsAway}
use Rattle.lawful_run.proofs.CallerLemmas.{commit_asks, explains_no_read, key_some, pairs_are}
use Rattle.script_meaning.specs.Dequeues.{object_node_at}
use Rattle.script_meaning.specs.States.{State, Grants, answered}
use Rattle.script_meaning.specs.Objects.{caller_in, shard_set}
use Rattle.script_meaning.specs.Transactions.{verdict_answer, verdict_in, verdict_tells, version_keys, committed_by, committed}
use Rattle.script_meaning.proofs.World.Additions.{adds_none}
use Rattle.script_meaning.proofs.Transaction.Telling.{AsksOver, TellsSo}
use Rattle.script_meaning.proofs.Transaction.TellingRuns.{answered_runs, runs_told}
use Rattle.script_meaning.proofs.Transaction.TransactionVerdicts.{own_verdict}
use Rattle.script_meaning.proofs.Run.Invariant.{Runs, IsFit, caller_is}
use Rattle.script_meaning.proofs.Client.Kept.{MadeBy}
use Rattle.script_meaning.proofs.Object.ObjectKinds.{object_has, some_of, tx_home}
use Rattle.script_meaning.proofs.Object.ShardSets.{shard_members}

-- A commit is told the verdict on its transaction.
verdict_so : ReadsBack → (object : ℕ) (pairs : List Pair) (versions : List Version) → IsForm (forms.Transaction versions pairs)
    → TellsSo (whats.Commit object pairs) (form_text (forms.Transaction versions pairs)) verdict_tells
verdict_so back object pairs versions is_form x keys own row points at raises syncs log caller kept after i node there text
    says = by_verdict (verdict_in x keys own) refl where
      rules : verdict_of (map (object_node_at x) keys) own ≡ Some (verdict_in x keys own)
      rules = there_is (verdict_of (map (object_node_at x) keys) own) _
          (own_verdict back x own keys i node there versions pairs is_form text) where
            there_is : (o : Option Verdict) (found : Verdict) → o ≡ Some found → o ≡ Some (unwrap_or o (Committed own.stamp))
            there_is o found e = e ∙ ap (λ (p : Option Verdict). Some (unwrap_or p (Committed own.stamp))) (sym e)

      by_verdict : (found : Verdict) → verdict_in x keys own ≡ found
          → Explains log caller kept (whats.Commit object pairs) (verdict_answer found row points at raises syncs) [] after
      by_verdict (Committed n) is =
          (refl, says (λ own nodes. verdict_of nodes own ≡ Some (shown_verdict None n)) (rules ∙ ap Some is))
      by_verdict (Conflict key n) is =
          (refl, says (λ own nodes. verdict_of nodes own ≡ Some (shown_verdict (Some key) n)) (rules ∙ ap Some is))

module _ (back : ReadsBack) (script : Script) (commands : List Command) (state : State) (command : Command)
    (grants : Grants) (runs : Runs script commands state) (fit : IsFit script commands command) (object : ℕ)
    (pairs : List Pair) (asked : command.what ≡ whats.Commit object pairs) where
  abbrev u : ℕ
  u = command.client

  abbrev w : World
  w = state.world

  abbrev commands' : List Command
  commands' = commands ++ command ∷ []

  abbrev its_colours : List ℕ
  its_colours = colours_of_object (caller_in w script.objects u) object

  uses : UsesObject script.objects (whats.Commit object pairs)
  uses = subst (UsesObject script.objects) asked fit.uses

  own : AreObjectColours script.shape.colours its_colours
  own = object_has script.objects script.shape.regions script.shape.colours fit.kinds object is_tx uses.0

  -- NO READ

  abbrev caller : Caller
  caller = caller_in w script.objects u

  at_home : asks.home_of_object caller object ≡ Some caller.own
  at_home =
      let h = tx_home uses.0.found.kind uses.0.kind in
      let is : asks.home_of_object caller object ≡ Some h.0 =
      ap (λ (o : Option Object). object_home (option_map (λ (x : Object). x.kind) o)) uses.0.there ∙ h.1 in
      let here : caller ≡ caller_of script u = caller_is script commands state command runs fit u in
      is ∙ ap Some (by_test _ (caller.own == h.0) (λ t. sym (eqb-true caller.own h.0 t))
      (λ f. absurd (fit.away (subst (λ (x : Caller). IsAway x (home_asked x command.what)) here
      (subst (λ (what : What). IsAway caller (home_asked caller what)) (sym asked)
      (subst (IsAway caller) (sym is) (λ e. apart (caller.own == h.0) (eq-eqb caller.own h.0 e) f)))))))

  runs_without : state.reads u object ≡ None → Runs script commands' (answered state command w answers.NoTx [])
  runs_without none = answered_runs script commands state command grants runs fit (whats.Commit object pairs) asked w answers.NoTx (record {
    steps = [];
    run = refl;
    shape = refl;
    others = λ n ne. refl;
    adds = λ r c. adds_none (MadeBy u (whats.Commit object pairs) w (home_of w u) r) (w.histories r c);
    keeps = λ kept k same. (
      kept,
      k,
      explains_no_read (log_of w) caller kept object pairs at_home (ap (λ (f : ℕ → Option (List Version)). f object) same ∙ none),
    );
  }) runs.finished

  -- A READ

  module _ (versions : List Version) (found : state.reads u object ≡ Some versions) where
    abbrev keys : List (List ℕ)
    keys = version_keys versions ++ keys_of_pairs pairs

    abbrev set : Colours
    set = shard_set its_colours keys

    abbrev text : List ℕ
    text = form_text (forms.Transaction versions pairs)

    asks_over : AsksOver script.objects u (whats.Commit object pairs) (state.reads u) set text
    asks_over x kept same =
        commit_asks (caller_in x script.objects u) kept object pairs versions set text
        (ap (λ (f : ℕ → Option (List Version)). f object) same ∙ found) (shard_members its_colours keys) refl

    is_form : IsForm (forms.Transaction versions pairs)
    is_form = (runs.versions u object versions found, pairs_are 2 pairs uses.1)

    abbrev a_key : (key : List ℕ) × In key (keys_of_pairs pairs)
    a_key = some_of (keys_of_pairs pairs) (key_some 2 pairs uses.1)

    runs_found : Runs script commands' (committed_by script.objects grants state command object pairs (Some versions))
    runs_found =
        runs_told script commands state command grants runs fit (whats.Commit object pairs) asked refl (λ kept. refl) object own (λ x. refl) keys
        (a_key.0, in_right a_key.0 (version_keys versions) (keys_of_pairs pairs) a_key.1) text asks_over verdict_tells
        (verdict_so back object pairs versions is_form)

  runs_by : (found : Option (List Version)) → state.reads u object ≡ found
      → Runs script commands' (committed_by script.objects grants state command object pairs found)
  runs_by None is = runs_without is
  runs_by (Some versions) is = runs_found versions is

  pub runs_commit : Runs script commands' (committed script.objects grants state command object pairs)
  runs_commit = runs_by (state.reads u object) refl
