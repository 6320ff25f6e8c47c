-- After a get of a causal map, and so after a get of either map, there holds what held before.
use Rattle.std.proofs.Common.{◌≡◌, ℕ, ◌<◌, List, [], ◌∷◌, ◌++◌, Option, Some, true, refl, subst, ap, sym, ◌∙◌, arith}
use Rattle.std.specs.Prelude.{slice_index, sum, ◌%◌}
use Rattle.std.specs.List.{AllZip}
use Rattle.std.specs.Option.{option_map}
use Rattle.std.proofs.lemmas.Bool.{ltb-true}
use Rattle.log_node.specs.Vectors.{at, vector}
use Rattle.log_node.specs.declared.limits.TheConstants.{MAX_COLOURS}
use Rattle.col_core.specs.Computed.{dated}
use Rattle.col_core.specs.Cuts.{Dated, chain}
use Rattle.col_core.specs.PlayOrder.{Place}
use Rattle.col_core.specs.Rows.{node_wants}
use Rattle.col_core.proofs.CallerLemmas.{both, cut-is_greatest, reached_within, In}
use Rattle.object_fold.specs.Nodes.{shard_of}
use Rattle.world_laws.specs.Worlds.{World, home_of, played_cut, is_client, is_column, chains_after}
use Rattle.world_laws.specs.Laws.{log_of}
use Rattle.script_text.specs.declared.script.Kind.{Kind}
use Rattle.script_text.specs.declared.script.Kind.TheVariants as kinds
use Rattle.script_text.specs.declared.script.Object.{Object}
use Rattle.script_text.specs.declared.commands.What.TheVariants as whats
use Rattle.script_text.specs.declared.script.Command.{Command}
use Rattle.script_text.specs.declared.script.Script.{Script}
use Rattle.script_text.specs.Fitting.{HasObject, is_any_map}
use Rattle.report_text.specs.declared.report.Answer.{Answer}
use Rattle.report_text.specs.declared.report.Answer.TheVariants as answers
use Rattle.lawful_run.specs.Deeds.{AsksForKey, colours_synced}
use Rattle.lawful_run.specs.Callers.{Caller}
use Rattle.lawful_run.specs.Objects.{IsChainNode, places_within}
use Rattle.lawful_run.proofs.CallerLemmas.{explains_values, key_gets, key_synced, one_shard}
use Rattle.script_meaning.specs.States.{State, Grants, kind_in}
use Rattle.script_meaning.specs.Gets.{got}
use Rattle.script_meaning.specs.CausalGets.{causal_node, nodes_up_to_cut, causal_values, got_values}
use Rattle.script_meaning.specs.Dequeues.{sync_now}
use Rattle.script_meaning.proofs.Run.FitCommands as fits
use Rattle.script_meaning.proofs.Object.CausalAnswers.{causal_answer}
use Rattle.script_meaning.proofs.Object.CausalNodes.{at_place, causal_node_is, place_within}
use Rattle.script_meaning.proofs.Object.GetRuns.{runs_get_by, runs_get_value}
use Rattle.script_meaning.proofs.Object.ObjectKinds.{causal_colour}
use Rattle.script_meaning.proofs.Run.Invariant.{Runs, IsFit}
use Rattle.script_meaning.proofs.Client.Kept.{caller_in}
use Rattle.script_meaning.proofs.World.Playing.{beside}
use Rattle.script_meaning.proofs.World.Reached.{listed_of}
use Rattle.script_meaning.proofs.Move.Sync as sync

module _ (script : Script) (commands : List Command) (state : State) (command : Command) (grants : Grants)
    (runs : Runs script commands state) (fit : IsFit script commands command) (object c : ℕ) (key : List ℕ)
    (asked : AsksForKey command.what object key) (kind : kind_in script.objects object ≡ Some (kinds.Causal c))
    (lt : c < script.shape.colours) where
  abbrev u : ℕ
  u = command.client

  abbrev w : World
  w = state.world

  abbrev own : ℕ
  own = home_of w u

  abbrev caller : Caller
  caller = caller_in w script.objects u

  abbrev commands' : List Command
  commands' = commands ++ command ∷ []

  abbrev answer : Answer
  answer = answers.GotMany (causal_values (nodes_up_to_cut w u c) key) (sync_now w u c)

  low : c < MAX_COLOURS
  low = let a = fit.few_colours in omega (arith, a, lt)

  one_colour : shard_of (c ∷ []) key ≡ c
  one_colour = let e : sum key % 1 ≡ 0 = omega arith in ap (λ (i : ℕ). slice_index (c ∷ []) i) e

  synced : colours_synced caller command.what ≡ c ∷ []
  synced =
      key_synced caller command.what object key (Some (kinds.Causal c)) asked kind
      ∙ (one_shard (c ∷ []) key (subst (λ (d : ℕ). d < MAX_COLOURS) (sym one_colour) low)
      ∙ ap (λ (d : ℕ). d ∷ []) one_colour)

  client_ok : is_client w u ≡ true
  client_ok = fits.client_ok script commands state command runs fit

  column_ok : is_column w own c ≡ true
  column_ok = fits.column_ok script commands state command runs fit c lt

  -- each node that is asked stands in its chain
  stands : (place : Place) → In place (places_within (played_cut w u c))
      → IsChainNode (log_of w) (chains_after own (w.histories own c)) place
      (causal_node w (chains_after own (w.histories own c)) place)
  stands place i =
      let chains = chains_after own (w.histories own c) in
      let p = place_within (played_cut w u c) place i in
      let long = reached_within chains (cut-is_greatest own (dated own (w.histories own c))).reached place.region p.0 in
      let lt = p.1 in
      let home = ltb-true own w.shape.regions (both _ _ column_ok).0 in
      let x = at_place w runs.reached c low own place.region place.position home (omega (arith, lt, long)) in
      subst (IsChainNode (log_of w) chains place)
      (sym (causal_node_is w runs.reached c low own place.region place.position x))
      (record {
        head = record { key = x.key; needs = vector (λ y. at (node_wants x.node c) y) };
        stands = x.head;
        region_is = refl;
        position_is = refl;
        needs_are = refl;
        text = (
          x.node,
          x.listed,
          (listed_of w runs.reached).ids x.key.id.client x.key.id.count x.node x.listed,
          refl,
        );
      })

  pub runs_got_values : Runs script commands' (got_values state command c key)
  runs_got_values =
      runs_get_by script commands state command grants runs fit c lt (key_gets command.what object key asked) synced answer
      (λ kept syncs. explains_values (log_of w) caller kept command.what object key (sync_now w u c) (nodes_up_to_cut w u c)
      (causal_values (nodes_up_to_cut w u c) key) asked kind syncs
      (subst (λ (ds : List Dated). AllZip (IsChainNode (log_of w) (chain own ds)) (places_within (played_cut w u c))
      (nodes_up_to_cut w u c))
      (sym (sync.all script.objects w runs.reached u c (fits.own_few script commands state command runs fit) client_ok
      column_ok))
      (beside (IsChainNode (log_of w) (chains_after own (w.histories own c)))
      (causal_node w (chains_after own (w.histories own c))) (places_within (played_cut w u c)) stands))
      (causal_answer (nodes_up_to_cut w u c) key))

-- a get, by the kind of its object
module _ (script : Script) (commands : List Command) (state : State) (command : Command) (grants : Grants)
    (runs : Runs script commands state) (fit : IsFit script commands command) (object : ℕ) (key : List ℕ)
    (asked : AsksForKey command.what object key) (has : HasObject script.objects object is_any_map) where
  by_kind : (kind : Kind) → kind_in script.objects object ≡ Some kind → is_any_map kind ≡ true
      → Runs script (commands ++ command ∷ []) (got grants state command (Some kind) key)
  by_kind (kinds.Map home colours) is map =
      runs_get_value script commands state command grants runs fit object home colours key asked is has
  by_kind (kinds.Causal colour) is map =
      runs_got_values script commands state command grants runs fit object colour key asked is
      (causal_colour script.objects script.shape.regions script.shape.colours fit.kinds object has colour is)
  by_kind _ is map = absurd (let f : ⊥ = cc in f)

  pub runs_get : Runs script (commands ++ command ∷ []) (got grants state command (kind_in script.objects object) key)
  runs_get =
      let is : kind_in script.objects object ≡ Some has.found.kind =
      ap (option_map (λ (o : Object). o.kind)) has.there in
      subst (λ (k : Option Kind). Runs script (commands ++ command ∷ []) (got grants state command k key)) (sym is)
      (by_kind has.found.kind is has.kind)
