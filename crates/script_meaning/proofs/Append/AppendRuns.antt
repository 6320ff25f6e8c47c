-- After an append, whichever command asks for it, and after a stop within one there holds what held before.
use Rattle.std.proofs.Common.{◌≡◌, inl, ℕ, zero, suc, ◌<◌, ◌≤◌, List, [], ◌∷◌, ◌++◌, length, take, Bool, true, Option, None, refl, ap, sym, subst, ◌∙◌, arith}
use Rattle.std.specs.Prelude.{IsTrue}
use Rattle.log_node.specs.declared.ids.Colours.{Colours}
use Rattle.log_node.specs.Sets.{members, set_of}
use Rattle.col_core.proofs.CallerLemmas.{choice, if_true, In}
use Rattle.world_laws.specs.Worlds.{World, run_steps, next_row, may_begin, after_begin}
use Rattle.world_laws.specs.Completing.{complete_steps}
use Rattle.script_text.specs.declared.script.Kind.{Kind}
use Rattle.script_text.specs.declared.commands.What.{What}
use Rattle.script_text.specs.declared.commands.What.TheVariants as whats
use Rattle.script_text.specs.declared.script.Command.{Command}
use Rattle.script_text.specs.declared.script.Script.{Script}
use Rattle.script_text.specs.declared.uses.ReadUse.TheVariants.{Leaves}
use Rattle.script_text.specs.declared.uses.Use.{Use}
use Rattle.script_text.specs.declared.uses.Use.TheVariants.{OfObject}
use Rattle.script_text.specs.Commands.{use_of}
use Rattle.script_text.specs.Items.{is_stop}
use Rattle.script_text.specs.Fitting.{AreBelow, AreObjectColours, HasColours, is_queue, HasObject}
use Rattle.report_text.specs.declared.report.Answer.{Answer}
use Rattle.report_text.specs.declared.report.Answer.TheVariants as answers
use Rattle.lawful_run.specs.Callers.{Caller}
use Rattle.lawful_run.specs.Asks.{Appending, colours_of_object, kind_used, object_colours}
use Rattle.lawful_run.specs.Deeds.{Saying, SaysNode, ShardsOf, found_by, manner_of, saying_of, says}
use Rattle.lawful_run.specs.Refusals.{nothing}
use Rattle.script_meaning.specs.States.{State, Grants, answered, kind_in}
use Rattle.script_meaning.specs.Appends.{answered_stood, appended, stopped, has_no_row_left, append_steps}
use Rattle.script_meaning.specs.Objects.{caller_in, shard_set}
use Rattle.script_meaning.proofs.Client.Kept.{Does}
use Rattle.script_meaning.proofs.Object.ShardSets.{shard_members, set_has, shards_below, shards_has}
use Rattle.script_meaning.proofs.Object.ObjectAppends.{AsksIn, does_as}
use Rattle.script_meaning.proofs.Object.ObjectKinds.{object_has, queue_one}
use Rattle.script_meaning.proofs.Append.AppendCases as cases
use Rattle.script_meaning.proofs.Client.Refusing.{did_full, did_stop_at_once, same_world}
use Rattle.script_meaning.proofs.Stop.Stopping as stopping
use Rattle.script_meaning.proofs.Run.Invariant.{IsStopped, Runs, IsFit, runs_done, runs_stopped}
use Rattle.script_meaning.proofs.Lists.{all_at}

module _ (script : Script) (commands : List Command) (state : State) (command : Command) (grants : Grants)
    (runs : Runs script commands state) (fit : IsFit script commands command) where
  abbrev u : ℕ
  u = command.client

  abbrev w : World
  w = state.world

  abbrev S : ℕ → Type 0
  S = IsStopped commands state.replies

  abbrev commands' : List Command
  commands' = commands ++ command ∷ []

  abbrev caller : Caller
  caller = caller_in w script.objects u

  below : (colours : Colours) → AreBelow script.shape.colours colours
      → (c : ℕ) → In c (members colours) → c < script.shape.colours
  below colours = all_at (λ c. c < script.shape.colours) (members colours)

  -- a stop
  module _ (colours : Colours) (text : List ℕ) (has : HasColours 2 colours) (all : AreBelow script.shape.colours colours) where
    many : 1 < length (members colours)
    many = let n = has.many in omega (arith, n)

    stop_done : (n : ℕ) (ok : may_begin w u colours ≡ true) → command.what ≡ whats.Stop (suc n) colours text
        → Runs script commands' (answered state command
        (run_steps w (take (suc n) (append_steps grants w u colours text))) (answers.Stopped (suc n)) [])
    stop_done n ok asked =
        let w1 = after_begin w u colours text in
        let w3 = run_steps w1 (take n (complete_steps w1 u (next_row w u) grants.marks)) in
        let is : run_steps w (take (suc n) (append_steps grants w u colours text)) ≡ w3 =
        ap (λ (x : World). run_steps x (take n (complete_steps x u (next_row w u) grants.marks)))
        (if_true (may_begin w u colours) w1 w ok) in
        subst (λ (x : World). Runs script commands' (answered state command x (answers.Stopped (suc n)) [])) (sym is)
        (runs_stopped script commands state command runs fit w3 (answers.Stopped (suc n)) []
        (subst (λ (what : What). Does script.objects u what w w3 (answers.Stopped (suc n)) []) (sym asked)
        (stopping.does_stop script.objects S grants w runs.reached runs.finished u colours text ok n))
        (suc n) refl (subst (λ (what : What). IsTrue (is_stop what)) (sym asked) refl)
        (stopping.finished_stop script.objects S grants w runs.reached runs.finished u colours text ok n))

    pub runs_stop : (n : ℕ) → command.what ≡ whats.Stop n colours text
        → Runs script commands' (stopped grants state command colours text n)
    runs_stop zero asked =
        runs_done script commands state command runs fit w (answers.Stopped 0) []
        (subst (λ (what : What). Does script.objects u what w w (answers.Stopped 0) []) (sym asked)
        (did_stop_at_once script.objects u colours text w)) runs.finished
    runs_stop (suc n) asked =
        choice (Runs script commands') (has_no_row_left w u)
        (answered state command w (answers.Full (w.clients u).used) [])
        (answered state command (run_steps w (take (suc n) (append_steps grants w u colours text)))
        (answers.Stopped (suc n)) [])
        (λ full. runs_done script commands state command runs fit w (answers.Full (w.clients u).used) []
        (subst (λ (what : What). Does script.objects u what w w (answers.Full (w.clients u).used) []) (sym asked)
        (did_full script.objects u (whats.Stop (suc n) colours text) colours text w runs.reached
        (λ caller kept. (refl, refl)) (λ a b e. absurd (let f : ⊥ = cc in f)) many full)) runs.finished)
        (λ room. stop_done n (cases.begins script commands state command runs fit colours many (below colours all) room) asked)

  -- what an append does, the command does
  runs_as : (colours : Colours) (text : List ℕ)
      → ((w' : World) (answer : Answer) → Does script.objects u (whats.Append colours text) w w' answer []
      → Does script.objects u command.what w w' answer [])
      → HasColours 1 colours → ((c : ℕ) → In c (members colours) → c < script.shape.colours)
      → Runs script commands' (appended grants state command colours text (members colours))
  runs_as colours text does has low =
      cases.by_append script commands state command grants runs fit colours text has low
      (answered_stood state command) (Runs script commands')
      (λ w' answer refusal d fin. runs_done script commands state command runs fit w' answer [] (does w' answer d) fin)
      (λ v stamp row points d fin. runs_done script commands state command runs fit v
      (answers.Stood stamp row points) [] (does v (answers.Stood stamp row points) d) fin)

  pub runs_append : (colours : Colours) (text : List ℕ) → command.what ≡ whats.Append colours text → HasColours 1 colours
      → AreBelow script.shape.colours colours
      → Runs script commands' (appended grants state command colours text (members colours))
  runs_append colours text asked has all =
      runs_as colours text
      (λ w' answer d. subst (λ (what : What). Does script.objects u what w w' answer []) (sym asked) d) has
      (below colours all)

  -- a command that appends to an object
  module _ {what : What} (asked : command.what ≡ what) (appending : manner_of what ≡ Appending) {test : Kind → Bool}
      (object : ℕ) (has : HasObject script.objects object test) where
    abbrev own : List ℕ
    own = colours_of_object caller object

    its : AreObjectColours script.shape.colours own
    its = object_has script.objects script.shape.regions script.shape.colours fit.kinds object test has

    runs_form : (set : Colours) (text : List ℕ) → AsksIn script.objects u what set text → HasColours 1 set
        → ((c : ℕ) → In c (members set) → c < script.shape.colours)
        → Runs script commands' (appended grants state command set text (members set))
    runs_form set text asks =
        runs_as set text
        (λ w' answer d. does_as script.objects u command.what set text (ap manner_of asked ∙ appending)
        (subst (λ (x : What). AsksIn script.objects u x set text) (sym asked) asks) w w' answer [] d)

    -- in the shards of keys: without a key there are none, and nothing is done
    runs_keys : (keys : List (List ℕ)) (text : List ℕ) → AsksIn script.objects u what (shard_set own keys) text
        → Runs script commands' (appended grants state command (shard_set own keys) text (members (shard_set own keys)))
    runs_keys [] text asks =
        subst (λ (ms : List ℕ). Runs script commands' (appended grants state command (shard_set own []) text ms))
        (sym (shard_members own []))
        (runs_done script commands state command runs fit w answers.NoMemory []
        (same_world script.objects u command.what w answers.NoMemory (λ kept k. (refl, nothing))) runs.finished)
    runs_keys (key ∷ keys) text asks =
        runs_form (shard_set own (key ∷ keys)) text asks
        (shards_has script.shape.colours fit.few_colours own its.some its.below (key ∷ keys) key (inl refl))
        (λ c i. shards_below script.shape.colours fit.few_colours own its.some its.below (key ∷ keys) c
        (subst (In c) (shard_members own (key ∷ keys)) i))

    -- by what it says
    pub runs_said : (keys : List (List ℕ)) (text : List ℕ) → use_of what ≡ OfObject object Leaves
        → saying_of (kind_in script.objects object) None what ≡ says (ShardsOf keys) text
        → Runs script commands' (appended grants state command (shard_set own keys) text (members (shard_set own keys)))
    runs_said keys text uses said = runs_keys keys text asks where
      asks : AsksIn script.objects u what (shard_set own keys) text
      asks x kept =
          subst (λ (of : Use). SaysNode (object_colours (kind_used (caller_in x script.objects u) of))
          (saying_of (kind_used (caller_in x script.objects u) of) (found_by of kept) what) (shard_set own keys) text)
          (sym uses)
          (subst (λ (node : Option Saying). SaysNode own node (shard_set own keys) text) (sym said)
          (shard_members own keys, refl))

    -- in the colour of a queue
    pub runs_queue : ((kind : Kind) → test kind ≡ true → is_queue kind ≡ true) → (text : List ℕ)
        → (members (set_of own) ≡ own → AsksIn script.objects u what (set_of own) text)
        → Runs script commands' (appended grants state command (set_of own) text (members (set_of own)))
    runs_queue queue text asks =
        let is = queue_one script.objects script.shape.regions script.shape.colours fit.kinds object test has
        fit.few_colours queue in
        let low : (d : ℕ) → In d own → d < script.shape.colours =
        all_at (λ (d : ℕ). d < script.shape.colours) own its.below in
        runs_form (set_of own) text (asks is)
        (set_has own (λ d i. let x = low d i in let y = fit.few_colours in omega (arith, x, y))
        (subst (λ (l : List ℕ). 1 ≤ length l) (sym is) its.some))
        (λ c i. low c (subst (In c) is i))
