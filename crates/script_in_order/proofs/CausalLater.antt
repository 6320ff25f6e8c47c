-- What a causal map's fold was fed, it was fed in every later world.
use Rattle.std.proofs.Common.{◌≡◌, ℕ, ◌<◌, List, [], ◌∷◌, ◌++◌, map, refl, ap, sym, subst, ◌∙◌, inl, inr, arith}
use Rattle.std.specs.List.Sorted.{IsPermutation}
use mathlib.Core.List.{IsPrefix}
use Rattle.log_node.specs.declared.node.Shape.{Shape}
use Rattle.log_node.specs.Vectors.{at, IsWithin}
use Rattle.log_node.specs.declared.limits.TheConstants.{MAX_COLOURS}
use Rattle.log_node.proofs.CallerLemmas.{within-at, within-trans}
use Rattle.col_core.specs.declared.Entry.{Entry}
use Rattle.col_core.specs.Computed.{cut, dated}
use Rattle.col_core.specs.Cuts.{Dated}
use Rattle.col_core.specs.History.{line}
use Rattle.col_core.specs.Legal.{IsColumnHistory}
use Rattle.col_core.specs.Log.{IsLater}
use Rattle.col_core.specs.PlayOrder.{Place}
use Rattle.col_core.proofs.CallerLemmas.{cut_grows, dates_longer, later, In}
use Rattle.object_fold.specs.declared.causal_map.CausalMap.{CausalMap}
use Rattle.object_fold.specs.CausalStates.{counts_of}
use Rattle.world_laws.specs.declared.steps.Step.{Step}
use Rattle.world_laws.specs.Worlds.{World, run_steps}
use Rattle.world_laws.specs.Laws.{IsReached, log_of}
use Rattle.world_laws.proofs.CallerLemmas.{Held, Told, held, told, log_grows, run_grows, run_reached}
use Rattle.lawful_run.specs.Objects.{places_within}
use Rattle.lawful_run.proofs.CallerLemmas.{prefix_get}
use Rattle.script_meaning.proofs.CallerLemmas.{causal_node_is, place_within}
use Rattle.script_in_order.specs.CausalFolds.{held_node, cut_to_play, IsCausalFold}
use Rattle.script_in_order.proofs.CausalSteps.{held_at, is_held, node_there}

same_maps : {A B : Type 0} (f g : A → B) (xs : List A) → ((x : A) → In x xs → f x ≡ g x) → map f xs ≡ map g xs
same_maps f g [] h = refl
same_maps {A} {B} f g (x ∷ xs) h =
    ap (λ (y : B). y ∷ map f xs) (h x (inl refl)) ∙ ap (λ (ys : List B). g x ∷ ys) (same_maps f g xs (λ y i. h y (inr i)))

-- a cut is within that of a longer history
cut_longer : (own regions : ℕ) (history longer : List Entry) → IsPrefix history longer
    → IsColumnHistory own regions (dated own longer) → IsWithin (cut own (dated own history)) (cut own (dated own longer))
cut_longer own regions history longer p lawful =
    let e : dated own longer ≡ dated own history ++ later own (dated own history) p.0 =
    ap (dated own) (sym p.1) ∙ dates_longer own history p.0 in
    subst (λ (ds : List Dated). IsWithin (cut own (dated own history)) (cut own ds)) (sym e)
    (cut_grows own regions (dated own history) (later own (dated own history) p.0)
    (subst (IsColumnHistory own regions) e lawful))

module _ (w w' : World) (steps : List Step) (reached : IsReached w) (run : run_steps w steps ≡ w') (own c : ℕ)
    (home : own < w.shape.regions) (low : c < MAX_COLOURS) where
  reached' : IsReached w'
  reached' = subst IsReached run (run_reached w steps reached)

  held' : Held w'
  held' = subst Held reached'.is (held reached'.shape reached'.steps)

  grown : IsLater (log_of w) (log_of w')
  grown =
      subst (λ (x : World). IsLater (log_of w) (log_of x)) run
      (log_grows w (subst Held reached.is (held reached.shape reached.steps))
      (subst Told reached.is (told reached.shape reached.steps)) steps)

  home' : own < w'.shape.regions
  home' = subst (λ (s : Shape). own < s.regions)
      (sym (subst (λ (x : World). x.shape ≡ w.shape) run (run_grows w steps).shape)) home

  cut_up : IsWithin (cut_to_play w own c) (cut_to_play w' own c)
  cut_up = cut_longer own w'.shape.regions (w.histories own c) (w'.histories own c) (grown.histories own c)
      (held'.lawful own c)

  same_node : (place : Place) → place.region < 4 → place.position < at (cut_to_play w own c) place.region
      → held_node w own c place ≡ held_node w' own c place
  same_node place few lt =
      let r = place.region in
      let p = place.position in
      let x = held_at w reached own c home low r p (is_held w reached own c home low r p few lt) in
      let up = within-at (cut_to_play w own c) (cut_to_play w' own c) cut_up r few in
      causal_node_is w reached c low own r p x
      ∙ sym (node_there w' reached' own c home' low r p
      (is_held w' reached' own c home' low r p few (omega (arith, lt, up))) x.key
      (prefix_get (line (w.histories r c)) (line (w'.histories r c)) p x.key (grown.lines r c) x.there) x.node
      (prefix_get (w.nodes x.key.id.client) (w'.nodes x.key.id.client) x.key.id.count x.node
      (grown.nodes x.key.id.client) x.listed))

  pub fold_later : (fold : CausalMap) → IsCausalFold w own c fold → IsCausalFold w' own c fold
  fold_later fold is = record {
    nodes = is.nodes;
    folded = is.folded;
    are = subst (IsPermutation is.nodes)
        (same_maps (held_node w own c) (held_node w' own c) (places_within (counts_of fold))
        (λ place i. let p = place_within (counts_of fold) place i in
        let lt = p.1 in
        let b = within-at (counts_of fold) (cut_to_play w own c) is.within place.region p.0 in
        same_node place p.0 (omega (arith, lt, b)))) is.are;
    within = within-trans (counts_of fold) (cut_to_play w own c) (cut_to_play w' own c) is.within cut_up;
  }
