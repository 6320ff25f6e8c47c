-- The nodes of a play order: each stands in its chain, and their greatest stamp is that of the nodes between.
use Rattle.std.proofs.Common.{◌≡◌, ℕ, zero, suc, ◌<◌, ◌≤◌, List, [], ◌∷◌, map, Some, Bool, true, cond, refl, subst, ap, sym, ◌∙◌, inl, inr, arith}
use Rattle.std.specs.Prelude.{nat_lt, nat_le, slice_get, slice_index_or}
use Rattle.std.specs.List.{AllZip, flat_map}
use Rattle.std.proofs.lemmas.Bool.{ltb-true, leb-true, lt-ltb, le-leb, and_from}
use Rattle.std.proofs.lemmas.Simd.{map-map}
use Rattle.log_node.specs.declared.ids.Counts.{Counts}
use Rattle.log_node.specs.declared.node.Head.{Head}
use Rattle.log_node.specs.Seen.{PlacedNode}
use Rattle.log_node.specs.Vectors.{at, all_regions}
use Rattle.log_node.specs.Outcomes.{greatest}
use Rattle.log_node.specs.Reach.{Chains, Reachable}
use Rattle.col_core.specs.PlayOrder.{Place, same_place, is_between, Stands, IsPlayOrder, nodes_between, greatest_between}
use Rattle.col_core.proofs.CallerLemmas.{both, reached_within, In, same_place-is, same_place-itself}
use Rattle.world_laws.proofs.CallerLemmas.{in_flat_map}
use Rattle.lawful_run.specs.Reads.{greatest_stamp}
use Rattle.lawful_run.proofs.CallerLemmas.{counted_in, greatest_bounded, in_counted, in_regions, in_stretch, regions_in, stretch_in}
use Rattle.script_meaning.proofs.Lists.{in_map_back}
use Rattle.log_node.proofs.CallerLemmas.{one_if}
pub use Rattle.log_node.proofs.CallerLemmas.{get_within as got_at}
pub use Rattle.col_core.proofs.CallerLemmas.{in_flat_map-back}

-- Lists

pub at_or : {A : Type 0} (xs : List A) (i : ℕ) (x d : A) → slice_get xs i ≡ Some x → slice_index_or xs i d ≡ x
at_or [] i x d e = absurd (let f : ⊥ = cc in f)
at_or (y ∷ xs) zero x d e = cc
at_or (y ∷ xs) (suc i) x d e = at_or xs i x d e

-- a list beside what a function makes of it
pub beside : {A B : Type 0} (R : A → B → Type 0) (f : A → B) (xs : List A) → ((x : A) → In x xs → R x (f x))
    → AllZip R xs (map f xs)
beside R f [] all = tt
beside R f (x ∷ xs) all = (all x (inl refl), beside R f xs (λ y i. all y (inr i)))

-- Greatest numbers

greatest_bounds : (xs : List ℕ) (x : ℕ) → In x xs → x ≤ greatest xs
greatest_bounds [] x i = absurd i
greatest_bounds (y ∷ ys) x (inl e) = omega (arith, e)
greatest_bounds (y ∷ ys) x (inr i) = let r = greatest_bounds ys x i in omega (arith, r)

-- A play order

module _ (chains : Chains) (from to : Counts) (order : List Place) (is : IsPlayOrder chains from to order)
    (reached : Reachable chains to) where
  between_of : (place : Place) → In place order → is_between from to place ≡ true
  between_of place i =
      let n = in_counted (same_place place) order place i (same_place-itself place) in
      let c = is.each_once place in
      one_if (is_between from to place) (omega (arith, n, c))

  -- a node stands at each place of it
  pub stands_of : (place : Place) → In place order → (place.region < 4) × (head : Head) × Stands chains place head
  stands_of place i =
      let a = both _ (nat_lt place.position (at to place.region)) (between_of place i) in
      let b = both (nat_lt place.region 4) (nat_le (at from place.region) place.position) a.0 in
      let lt = ltb-true place.region 4 b.0 in
      let less = ltb-true place.position (at to place.region) a.1 in
      let long = reached_within chains reached place.region lt in
      let g = got_at (chains place.region) place.position (omega (arith, less, long)) in
      (lt, g.0, g.1)

  stamp_among : (place : Place) → In place order → (head : Head) → Stands chains place head
      → In head (flat_map (nodes_between chains from to) all_regions)
  stamp_among place i head stands =
      let a = both _ (nat_lt place.position (at to place.region)) (between_of place i) in
      let b = both (nat_lt place.region 4) (nat_le (at from place.region) place.position) a.0 in
      in_flat_map-back (nodes_between chains from to) all_regions place.region head
      (in_regions place.region (ltb-true place.region 4 b.0))
      (in_stretch (at from place.region) (at to place.region) (chains place.region) place.position head stands
      (leb-true (at from place.region) place.position b.1) (ltb-true place.position (at to place.region) a.1))

  -- each node between has its place
  place_of : (head : Head) → In head (flat_map (nodes_between chains from to) all_regions)
      → (place : Place) × In place order × Stands chains place head
  place_of head i =
      let r = in_flat_map (nodes_between chains from to) all_regions head i in
      let x = stretch_in (at from r.0) (at to r.0) (chains r.0) head r.2 in
      let place : Place = record { region = r.0; position = x.0 } in
      let b : is_between from to place ≡ true =
      and_from _ _ (and_from _ _ (lt-ltb r.0 4 (regions_in r.0 r.1)) (le-leb (at from r.0) x.0 x.2))
      (lt-ltb x.0 (at to r.0) x.3) in
      let c = is.each_once place ∙ ap (λ (t : Bool). cond {A = ℕ} t 1 0) b in
      let y = counted_in (same_place place) order (omega (arith, c)) in
      let same : y.0 ≡ place = sym {b = y.0} (same_place-is place y.0 y.2) in
      (place, subst (λ (p : Place). In p order) same y.1, x.1)

  -- the greatest stamp of its nodes
  pub stamp_of : (shown : Place → PlacedNode)
      → ((place : Place) (head : Head) → Stands chains place head → (shown place).head ≡ head)
      → greatest_stamp (map shown order) ≡ greatest_between chains from to
  stamp_of shown shows =
      let stamp : Head → ℕ = λ head. head.key.stamp in
      let between = flat_map (nodes_between chains from to) all_regions in
      let a = greatest_bounded (λ (place : Place). (shown place).head.key.stamp) order
      (greatest (map stamp between))
      (λ place i. let s = stands_of place i in
      greatest_bounds (map stamp between) ((shown place).head.key.stamp)
      (subst (λ (h : Head). In (h.key.stamp) (map stamp between)) (sym (shows place s.1 s.2))
      (in_map_back stamp between s.1 (stamp_among place i s.1 s.2)))) in
      let b = greatest_bounded stamp between (greatest (map (λ (place : Place). (shown place).head.key.stamp) order))
      (λ head i. let p = place_of head i in
      subst (λ (h : Head). h.key.stamp ≤ greatest (map (λ (place : Place). (shown place).head.key.stamp) order))
      (shows p.0 head p.2)
      (greatest_bounds (map (λ (place : Place). (shown place).head.key.stamp) order) ((shown p.0).head.key.stamp)
      (in_map_back (λ (place : Place). (shown place).head.key.stamp) order p.0 p.1))) in
      ap greatest (map-map (λ (item : PlacedNode). item.head.key.stamp) shown order) ∙ omega (arith, a, b)
