-- Each state to which a fitting script's commands lead keeps what `Runs` says.
use Rattle.std.proofs.Common.{◌≡◌, ◌⊎◌, inl, inr, ℕ, suc, ◌+◌, ◌<◌, List, [], ◌∷◌, ◌++◌, length, Option, Some, None, refl, ap, sym, subst, ◌∙◌, arith, append-nil, append_assoc, length-append}
use Rattle.std.specs.Prelude.{IsTrue, slice_get, slice_index, slice_index_or}
use Rattle.object_form.specs.Laws.{ReadsBack}
use Rattle.col_core.proofs.CallerLemmas.{choice, In}
use Rattle.world_laws.proofs.CallerLemmas.{in_slice, in_left, in_right}
use Rattle.script_text.specs.declared.commands.What.{What}
use Rattle.script_text.specs.declared.commands.What.TheVariants as whats
use Rattle.script_text.specs.declared.script.Command.{Command}
use Rattle.script_text.specs.declared.script.Script.{Script}
use Rattle.script_text.specs.Items.{is_stop}
use Rattle.script_text.specs.Fitting.{IsFitting, IsWithin, UsesObject}
use Rattle.script_text.proofs.CallerLemmas.{regions_few, colours_few, clients_few}
use Rattle.report_text.specs.declared.report.Answer.TheVariants as answers
use Rattle.lawful_run.specs.Callers.{Caller, caller_of}
use Rattle.lawful_run.specs.Asks.{home_asked}
use Rattle.lawful_run.specs.Refusals.{IsAway}
use Rattle.lawful_run.proofs.CallerLemmas.{get_within, get-append}
use Rattle.script_meaning.specs.States.{State, Grants, StopsAreLast, answered}
use Rattle.script_meaning.specs.Objects.{caller_in, refusing_home}
use Rattle.script_meaning.specs.Meaning.{done_one, done_from, done, LeadTo, nothing, next}
use Rattle.script_meaning.proofs.Client.Kept.{did_nothing}
use Rattle.script_meaning.proofs.World.Playing.{at_or}
use Rattle.script_meaning.proofs.Transaction.TransactionReads as reading
use Rattle.script_meaning.proofs.Object.ObjectKinds.{not_away, is_away, did_stay_away}
use Rattle.script_meaning.proofs.Append.BeginRow as begun
use Rattle.script_meaning.proofs.Lists.{all_at}
use Rattle.script_meaning.proofs.Run.CommandRows.{runs_what}
use Rattle.script_meaning.proofs.Tree.TreeLaws.{TreesReadBack}
use Rattle.script_meaning.proofs.Run.Invariant.{Runs, IsFitWhere, IsFit, runs_opening, runs_answered, caller_is}

-- whether a command is a read of an object
read_or_not : (what : What)
    → ((object : ℕ) × (keys : List (List ℕ)) × (what ≡ whats.Read object keys))
    ⊎ ((object : ℕ) (keys : List (List ℕ)) → what ≡ whats.Read object keys → ⊥)
read_or_not (whats.Read object keys) = inl (object, keys, refl)
read_or_not _ = inr (λ o k e. let f : ⊥ = cc in f)

module _ (script : Script) (commands : List Command) (command : Command)
    (fit : IsFitWhere script commands command ⊥ (Unit {0}))
    (other : (object : ℕ) (keys : List (List ℕ)) → command.what ≡ whats.Read object keys → ⊥) where
  no_read : IsFit script commands command
  no_read = record {
    caller = fit.caller;
    home = fit.home;
    few = fit.few;
    within = fit.within;
    going = fit.going;
    uses = fit.uses;
    kinds = fit.kinds;
    few_colours = fit.few_colours;
    few_clients = fit.few_clients;
    callers = fit.callers;
    short = fit.short;
    away = fit.away;
    read = other;
  }

module _ (back : ReadsBack) (tree : TreesReadBack) (script : Script) (commands : List Command) (state : State) (command : Command)
    (grants : Grants) (runs : Runs script commands state) where
  abbrev caller_now : Caller
  caller_now = caller_in state.world script.objects command.client

  -- where the home of the command's object refuses it, and where it does not
  runs_from : (IsFitWhere script commands command (Unit {0}) (Unit {0})) → (home : Option ℕ)
      → refusing_home caller_now command.what ≡ home
      → ((IsAway caller_now (home_asked caller_now command.what) → ⊥)
      → IsFitWhere script commands command ⊥ (Unit {0}))
      → Runs script (commands ++ command ∷ []) (done_from home script.objects grants state command)
  runs_from any None is fit =
      let near = fit (not_away caller_now (home_asked caller_now command.what) is) in
      elim (read_or_not command.what) [
        | inl r ↦ subst (λ (what : What). Runs script (commands ++ command ∷ [])
            (done_one script.objects grants state command what)) (sym r.2)
            (reading.runs_read script commands state command grants runs near r.0 r.1 r.2)
        | inr other ↦ let fits = no_read script commands command near other in
            runs_what back tree script commands state command grants runs fits command.what refl near.within near.uses
      ]
  runs_from any (Some home) is fit =
      let away = is_away caller_now (home_asked caller_now command.what) home is in
      runs_answered script commands state command runs any state.world (answers.NotHome home) []
      (inr (λ _ _ _ _ e. absurd (let f : ⊥ = cc in f)))
      (did_stay_away script.objects command.client command.what state.world home away.0 away.1)
      (λ _. inr (home, refl)) runs.finished

  pub runs_command : (IsFitWhere script commands command (Unit {0}) (Unit {0}))
      → ((IsAway caller_now (home_asked caller_now command.what) → ⊥)
      → IsFitWhere script commands command ⊥ (Unit {0}))
      → Runs script (commands ++ command ∷ []) (done script.objects grants state command)
  runs_command any fit =
      choice (Runs script (commands ++ command ∷ [])) grants.start
      (done_from (refusing_home caller_now command.what) script.objects grants state command)
      (answered state command state.world answers.NoMemory [])
      (λ _. runs_from any (refusing_home caller_now command.what) refl fit)
      (λ _. runs_answered script commands state command runs any state.world answers.NoMemory []
      (inr (λ _ _ _ _ e. absurd (let f : ⊥ = cc in f)))
      (did_nothing script.objects command.client command.what state.world) (λ _. inl refl) runs.finished)

-- The commands of a script

module _ (back : ReadsBack) (tree : TreesReadBack) (script : Script) (fits : IsFitting script) (last : StopsAreLast script) where
  fit_at : (commands : List Command) (command : Command) (rest : List Command)
      → script.commands ≡ commands ++ command ∷ rest → (Away : Type 0)
      → (IsAway (caller_of script command.client) (home_asked (caller_of script command.client) command.what) → Away)
      → IsFitWhere script commands command Away (Unit {0})
  fit_at commands command rest is Away away =
      let there : In command script.commands =
      subst (λ (l : List Command). In command l) (sym is) (in_right command commands (command ∷ rest) (inl refl)) in
      record {
        caller = all_at (λ (c : Command). c.client < length script.shape.homes) script.commands fits.callers command
            there;
        home = home_at command.client
            (all_at (λ (c : Command). c.client < length script.shape.homes) script.commands fits.callers command there);
        few = regions_few script.version script.shape fits.shape;
        within = all_at (λ (c : Command). IsWithin script.shape.regions script.shape.colours c.what) script.commands
            fits.commands command there;
        going = λ c i same stop.
            let x = in_slice commands c i in
            let lt = get_within commands x.0 c x.1 in
            let total : length script.commands ≡ length commands + suc (length rest) =
            ap length is ∙ length-append commands (command ∷ rest) in
            let first : slice_index_or script.commands x.0 command ≡ c =
            at_or script.commands x.0 c command
            (ap (λ (l : List Command). slice_get l x.0) is ∙ get-append commands (command ∷ rest) x.0 c x.1) in
            let z : length commands ≡ length commands + 0 = omega arith in
            let second : slice_index_or script.commands (length commands) command ≡ command =
            at_or script.commands (length commands) command command
            (ap (λ (l : List Command). slice_get l (length commands)) is
            ∙ (ap (slice_get (commands ++ command ∷ rest)) z ∙ begun.get_behind commands (command ∷ rest) 0)) in
            let pair = last x.0 (length commands) command lt (omega (arith, total)) in
            subst (λ (d : Command). d.client ≡ c.client → ⊥) second
            (subst (λ (d : Command). (slice_index_or script.commands (length commands) command).client ≡ d.client → ⊥)
            first (pair (subst (λ (d : Command). IsTrue (is_stop d.what)) (sym first) stop)))
            (sym same);
        uses = all_at (λ (c : Command). UsesObject script.objects c.what) script.commands fits.uses command there;
        kinds = fits.objects;
        few_colours = colours_few script.version script.shape fits.shape;
        few_clients = clients_few script.version script.shape fits.shape;
        callers = λ c i. all_at (λ (c : Command). c.client < length script.shape.homes) script.commands fits.callers c
            (subst (λ (l : List Command). In c l) (sym is) (in_left c commands (command ∷ rest) i));
        short =
            let total : length script.commands ≡ length commands + suc (length rest) =
            ap length is ∙ length-append commands (command ∷ rest) in
            let few = fits.few in omega (arith, total, few);
        away = away;
        read = λ _ _ _. tt;
      } where
        home_at : (n : ℕ) → n < length script.shape.homes → slice_index script.shape.homes n < script.shape.regions
        home_at n lt = fits.shape.homes n 0 lt

  pub runs_lead : {commands : List Command} {state : State} → LeadTo script commands state → (rest : List Command)
      → script.commands ≡ commands ++ rest → Runs script commands state
  runs_lead nothing rest is = runs_opening script
  runs_lead (next {commands} {state} command grants leads) rest is =
      let whole : script.commands ≡ commands ++ command ∷ rest = is ∙ append_assoc commands (command ∷ []) rest in
      let runs = runs_lead leads (command ∷ rest) whole in
      let any = fit_at commands command rest whole (Unit {0}) (λ _. tt) in
      let same = caller_is script commands state command runs any command.client in
      runs_command back tree script commands state command grants runs any
      (λ near. fit_at commands command rest whole ⊥
      (subst (λ (c : Caller). IsAway c (home_asked c command.what) → ⊥) same near))

  pub runs_all : {state : State} → LeadTo script script.commands state → Runs script script.commands state
  runs_all leads = runs_lead leads [] (sym (append-nil script.commands))
