-- After a sync, a pull and a trim there holds what held before.
use Rattle.std.proofs.Common.{refl, ◌≡◌, ◌≢◌, ℕ, ◌<◌, List, [], ◌∷◌, ◌++◌, true, false, ap, sym, subst, eq-eqb}
use Rattle.std.specs.Prelude.{◌==◌, not}
use Rattle.std.proofs.lemmas.Bool.{and_from, lt-ltb, eqb-true}
use Rattle.log_node.specs.declared.node.Shape.{Shape}
use Rattle.col_core.proofs.CallerLemmas.{choice, apart}
use Rattle.world_laws.specs.declared.steps.Step.TheVariants.{Play}
use Rattle.world_laws.specs.Worlds.{World, home_of, is_client, is_column, are_two_columns, may_play, after_play, after}
use Rattle.world_laws.proofs.CallerLemmas.{played_client}
use Rattle.playback.proofs.CallerLemmas.{order_is_played}
use Rattle.script_text.specs.declared.commands.What.{What}
use Rattle.script_text.specs.declared.commands.What.TheVariants as whats
use Rattle.script_text.specs.declared.script.Command.{Command}
use Rattle.script_text.specs.declared.script.Script.{Script}
use Rattle.report_text.specs.declared.report.Answer.TheVariants as answers
use Rattle.script_meaning.specs.States.{State, Grants, all_granted}
use Rattle.script_meaning.specs.Moves.{nodes_unplayed, synced, with_give, with_carry, pulled_from, pulled, trimmed}
use Rattle.script_meaning.proofs.World.Clearing.{Finished}
use Rattle.script_meaning.proofs.Client.Kept.{Does}
use Rattle.script_meaning.proofs.Move.MoveCases.{play_answer, trimmed_answer, pull_answer, with_trim, base_answer, played, refused, synced_is, stayed, carried, given, pulled_is, from_is, trimmed_is}
use Rattle.script_meaning.proofs.Run.FitCommands as fits
use Rattle.script_meaning.proofs.Run.Invariant.{IsStopped, Runs, IsFit, runs_done}
use Rattle.script_meaning.proofs.Move.Pulling as pulling
use Rattle.script_meaning.proofs.World.Reached.{held_of, cuts_of}
use Rattle.script_meaning.proofs.Client.OwnEvents.{finished_client}
use Rattle.script_meaning.proofs.Client.Refusing.{did_same}
use Rattle.script_meaning.proofs.Move.Sync.{did_play, did_refuse}
use Rattle.script_meaning.proofs.Move.Trimming as trimming

module _ (script : Script) (commands : List Command) (state : State) (command : Command)
    (runs : Runs script commands state) (fit : IsFit script commands command) where
  abbrev u : ℕ
  u = command.client

  abbrev w : World
  w = state.world

  abbrev S : ℕ → Type 0
  S = IsStopped commands state.replies

  abbrev commands' : List Command
  commands' = commands ++ command ∷ []

  own_few : home_of w u < 4
  own_few = fits.own_few script commands state command runs fit

  client_ok : is_client w u ≡ true
  client_ok = fits.client_ok script commands state command runs fit

  column_ok : (c : ℕ) → c < script.shape.colours → is_column w (home_of w u) c ≡ true
  column_ok = fits.column_ok script commands state command runs fit

  -- a sync

  sync_finished : (c : ℕ) → Finished S (after w (Play u c))
  sync_finished c =
      choice (Finished S) (may_play w u c) (after_play w u c) w
      (λ _. finished_client S w u (played_client w u c) refl runs.finished) (λ _. runs.finished)

  pub runs_sync : (c : ℕ) → command.what ≡ whats.Sync c → c < script.shape.colours
      → Runs script commands' (synced state command c)
  runs_sync c asked lt =
      subst (Runs script commands') (sym (synced_is all_granted state command c))
      (choice (Runs script commands') (may_play w u c) (played all_granted state command c)
      (refused all_granted state command c)
      (λ ok. runs_done script commands state command runs fit (after w (Play u c)) (play_answer w u c)
      (nodes_unplayed w u c)
      (subst (λ (what : What). Does script.objects u what w (after w (Play u c)) (play_answer w u c)
      (nodes_unplayed w u c)) (sym asked)
      (did_play script.objects w runs.reached u c own_few client_ok (column_ok c lt) (cuts_of w runs.reached)
      ((held_of w runs.reached).copies c) order_is_played ok)) (sync_finished c))
      (λ no. runs_done script commands state command runs fit w (trimmed_answer w u c) []
      (subst (λ (what : What). Does script.objects u what w w (trimmed_answer w u c) []) (sym asked)
      (did_refuse script.objects w runs.reached u c own_few client_ok (column_ok c lt) no)) runs.finished))

  -- a pull

  module _ (grants : Grants) (region c : ℕ) (asked : command.what ≡ whats.Pull region c)
      (there : region < script.shape.regions) (lt : c < script.shape.colours) where
    region_ok : is_column w region c ≡ true
    region_ok = and_from _ _
        (lt-ltb region w.shape.regions (subst (λ (s : Shape). region < s.regions) (sym runs.shape) there))
        (lt-ltb c w.shape.colours (subst (λ (s : Shape). c < s.colours) (sym runs.shape) lt))

    two : (region == home_of w u) ≡ false → are_two_columns w region (home_of w u) c ≡ true
    two f = and_from (is_column w region c) _ region_ok
        (and_from (is_column w (home_of w u) c) _ (column_ok c lt) (ap not f))

    another : (region == home_of w u) ≡ false → region ≢ home_of w u
    another f e = apart (region == home_of w u) (eq-eqb region (home_of w u) e) f

    runs_from : (region == home_of w u) ≡ false
        → Runs script commands' (pulled_from grants state command region c)
    runs_from f =
        subst (Runs script commands') (sym (from_is grants state command region c))
        (choice (Runs script commands') grants.carry (carried grants state command region c)
        (given grants state command region c)
        (λ _. runs_done script commands state command runs fit (with_carry w u region c) (pull_answer w u region c) []
        (subst (λ (what : What). Does script.objects u what w (with_carry w u region c) (pull_answer w u region c) [])
        (sym asked)
        (pulling.did_pull script.objects w runs.reached u region c (another f) (two f)))
        (pulling.carry_finished script.objects w runs.reached u region c (another f) (two f) S runs.finished))
        (λ _. runs_done script commands state command runs fit (with_give w u region c) answers.NoMemory []
        (subst (λ (what : What). Does script.objects u what w (with_give w u region c) answers.NoMemory []) (sym asked)
        (pulling.did_give script.objects w runs.reached u region c (another f) (two f)))
        (pulling.give_finished script.objects w runs.reached u region c (another f) (two f) S runs.finished)))

    pub runs_pull : Runs script commands' (pulled grants state command region c)
    runs_pull =
        subst (Runs script commands') (sym (pulled_is grants state command region c))
        (choice (Runs script commands') (region == home_of w u) (stayed grants state command)
        (pulled_from grants state command region c)
        (λ t. runs_done script commands state command runs fit w answers.SameRegion []
        (subst (λ (what : What). Does script.objects u what w w answers.SameRegion []) (sym asked)
        (did_same script.objects u region c w (eqb-true region (home_of w u) t))) runs.finished)
        runs_from)

  -- a trim

  pub runs_trim : (c : ℕ) → command.what ≡ whats.Trim c → c < script.shape.colours
      → Runs script commands' (trimmed state command c)
  runs_trim c asked lt =
      let w' = with_trim w u c in
      subst (Runs script commands') (sym (trimmed_is all_granted state command c))
      (runs_done script commands state command runs fit w' (base_answer w w' u c) []
      (subst (λ (what : What). Does script.objects u what w w' (base_answer w w' u c) []) (sym asked)
      (trimming.did_trim script.objects w runs.reached u c (column_ok c lt)))
      (trimming.trim_finished script.objects w runs.reached u c (column_ok c lt) S runs.finished))
