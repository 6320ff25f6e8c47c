-- The nodes that a client has played, as a causal map reads them, could be played in this order.
use Rattle.std.proofs.Common.{◌≡◌, ℕ, zero, suc, ◌+◌, ◌<◌, ◌≤◌, List, [], ◌∷◌, ◌++◌, length, take, Some, Bool, cond, refl, ap, sym, subst, ◌∙◌, inl, inr, arith, append_assoc, append-nil}
use Rattle.std.specs.Prelude.{◌==◌, slice_get, slice_index}
use Rattle.std.specs.List.{AllZip, count_by}
use Rattle.std.proofs.lemmas.Bool.{cases_lt}
use Rattle.std.proofs.lemmas.List.{length-take-le}
use Rattle.log_node.specs.Seen.{PlacedNode}
use Rattle.col_core.specs.PlayOrder.{Place}
use Rattle.object_fold.specs.Causal.{ChainNode}
use Rattle.object_fold.specs.declared.causal_map.CausalMap.{CausalMap}
use Rattle.object_fold.specs.CausalStates.{IsCausalMap}
use Rattle.object_fold.specs.Pasts.{MayPlayNext}
use Rattle.log_client.specs.declared.client.Client.{Client}
use Rattle.log_client.specs.Clients.{played_of}
use Rattle.log_client.proofs.CallerLemmas.{IsPlacedIn, PlayedIn, of_region, zip_at, zip_long}
use Rattle.causal_map.specs.Played.{chain_node, chain_nodes, chain_nodes_after, AreInCausalOrder, KeepsFirst}
use Rattle.log_node.proofs.CallerLemmas.{count_by-cons as counted}

abbrev pub node_of_region : ℕ → PlacedNode → Bool
node_of_region r item = item.node.region == r

abbrev pub chain_of_region : ℕ → ChainNode → Bool
chain_of_region r node = node.region == r

-- the node at a place of the list
pub chain_at : (earlier items : List PlacedNode) (n : ℕ) (node : ChainNode)
    → slice_get (chain_nodes_after earlier items) n ≡ Some node
    → (item : PlacedNode) × (slice_get items n ≡ Some item) × (node ≡ chain_node (earlier ++ take n items) item)
chain_at earlier [] n node e = absurd (let f : ⊥ = cc (e) in f)
chain_at earlier (i ∷ items) zero node e =
    let same : chain_node earlier i ≡ node = cc (e) in
    (i, refl, sym same ∙ ap (λ (l : List PlacedNode). chain_node l i) (sym (append-nil earlier)))
chain_at earlier (i ∷ items) (suc n) node e =
    let r = chain_at (earlier ++ i ∷ []) items n node e in
    (r.0, r.1, r.2 ∙ ap (λ (l : List PlacedNode). chain_node l r.0) (append_assoc earlier (i ∷ []) (take n items)))

-- as many nodes are read as there are
pub nodes_long : (earlier items : List PlacedNode) → length (chain_nodes_after earlier items) ≡ length items
nodes_long earlier [] = refl
nodes_long earlier (i ∷ items) = ap suc (nodes_long (earlier ++ i ∷ []) items)

-- as many of a region in both lists
pub chain_counts : (r : ℕ) (earlier items : List PlacedNode) (n : ℕ)
    → count_by (chain_of_region r) (take n (chain_nodes_after earlier items)) ≡ count_by (node_of_region r) (take n items)
chain_counts r earlier items zero = refl
chain_counts r earlier [] (suc n) = refl
chain_counts r earlier (i ∷ items) (suc n) =
    let rest = chain_counts r (earlier ++ i ∷ []) items n in
    counted (chain_of_region r) (chain_node earlier i) (take n (chain_nodes_after (earlier ++ i ∷ []) items))
    ∙ (ap (λ (m : ℕ). cond (i.node.region == r) 1 0 + m) rest ∙ sym (counted (node_of_region r) i (take n items)))

-- and of the places at which they stand
pub place_counts : (d : Client) (colour r : ℕ) (places : List Place) (items : List PlacedNode) (n : ℕ)
    → AllZip (IsPlacedIn d colour) places items
    → count_by (node_of_region r) (take n items) ≡ count_by (of_region r) (take n places)
place_counts d colour r places items zero all = refl
place_counts d colour r [] [] (suc n) all = refl
place_counts d colour r [] (i ∷ items) (suc n) all = absurd all
place_counts d colour r (p ∷ places) [] (suc n) all = absurd all
place_counts d colour r (p ∷ places) (i ∷ items) (suc n) all =
    counted (node_of_region r) i (take n items)
    ∙ (ap (λ (q : ℕ). cond (q == r) 1 0 + count_by (node_of_region r) (take n items)) all.0.1
    ∙ (ap (λ (m : ℕ). cond (p.region == r) 1 0 + m) (place_counts d colour r places items n all.1)
    ∙ sym (counted (of_region r) p (take n places))))

place_at : (places : List Place) (items : List PlacedNode) (n : ℕ) (item : PlacedNode) → length places ≡ length items
    → slice_get items n ≡ Some item → (p : Place) × (slice_get places n ≡ Some p)
place_at [] [] n item same e = absurd (let f : ⊥ = cc (e) in f)
place_at [] (i ∷ items) n item same e = absurd (let f : ⊥ = omega (arith, same) in f)
place_at (p ∷ places) [] n item same e = absurd (let f : ⊥ = cc (e) in f)
place_at (p ∷ places) (i ∷ items) zero item same e = (p, refl)
place_at (p ∷ places) (i ∷ items) (suc n) item same e = place_at places items n item (omega (arith, same)) e

module _ (d : Client) (colour : ℕ) (all : PlayedIn d colour) where
  abbrev items : List PlacedNode
  items = played_of d colour

  pub place_of : (n : ℕ) (item : PlacedNode) → slice_get items n ≡ Some item
      → (p : Place) × (slice_get all.order n ≡ Some p)
  place_of n item there =
      place_at all.order items n item (zip_long (IsPlacedIn d colour) all.order items all.shown) there

  so_far : (r n : ℕ) → count_by (node_of_region r) (take n items) ≡ count_by (of_region r) (take n all.order)
  so_far r n = place_counts d colour r all.order items n all.shown

  pub are_played : AreInCausalOrder items
  are_played n item there =
      let p = place_of n item there in
      let at_place = zip_at (IsPlacedIn d colour) all.order items n p.0 item all.shown p.1 there in (
        subst (λ (r : ℕ). r < 4) (sym at_place.1) (all.placed n p.0 p.1).0,
        λ region few.
            let x = all.needs n p.0 item p.1 there region few in
            let y = so_far region n in
            omega (arith, x, y),
      )

-- a node whose needs are four numbers is the next one after those before it
pub next_node : (items : List PlacedNode) (n : ℕ) (item : PlacedNode) → AreInCausalOrder items → slice_get items n ≡ Some item
    → length item.head.needs.0 ≡ 4 → MayPlayNext (take n (chain_nodes items)) (chain_node (take n items) item)
next_node items n item played there four = record {
  region = (played n item there).0;
  position = sym (chain_counts item.node.region [] items n);
  needs = λ region. elim (cases_lt region 4) [
    | inl few ↦
        (let x = (played n item there).1 region few in
        let y = chain_counts region [] items n in
        omega (arith, x, y))
    | inr many ↦ (let none = past item.head.needs.0 region (omega (arith, four, many)) in omega (arith, none))
  ];
} where
  past : (xs : List ℕ) (r : ℕ) → length xs ≤ r → slice_index xs r ≡ 0
  past [] r le = refl
  past (x ∷ xs) zero le = absurd (let f : ⊥ = omega (arith, le) in f)
  past (x ∷ xs) (suc r) le = past xs r (omega (arith, le))

-- one node more is read
taken_more : (earlier items : List PlacedNode) (n : ℕ) (item : PlacedNode) → slice_get items n ≡ Some item
    → take (suc n) (chain_nodes_after earlier items)
    ≡ take n (chain_nodes_after earlier items) ++ chain_node (earlier ++ take n items) item ∷ []
taken_more earlier [] n item e = absurd (let f : ⊥ = cc (e) in f)
taken_more earlier (i ∷ items) zero item e =
    let same : i ≡ item = cc (e) in
    ap (λ (x : PlacedNode). chain_node earlier x ∷ []) same
    ∙ ap (λ (l : List PlacedNode). chain_node l item ∷ []) (sym (append-nil earlier))
taken_more earlier (i ∷ items) (suc n) item e =
    ap (λ (l : List ChainNode). chain_node earlier i ∷ l)
    (taken_more (earlier ++ i ∷ []) items n item e
    ∙ ap (λ (l : List PlacedNode). take n (chain_nodes_after (earlier ++ i ∷ []) items) ++ chain_node l item ∷ [])
    (append_assoc earlier (i ∷ []) (take n items)))

-- how many the map was fed
pub fed_first : (items : List PlacedNode) (map : CausalMap) (k : KeepsFirst items map)
    → length (take k.0 (chain_nodes items)) ≡ k.0
fed_first items map k = length-take-le k.0 (chain_nodes items) (let le = k.1 in let long = nodes_long [] items in omega (arith, le, long))

-- what is folded, with the next node
pub keeps_more : (items : List PlacedNode) (old new : CausalMap) (place : ℕ) (item : PlacedNode) → AreInCausalOrder items
    → slice_get items place ≡ Some item → length item.head.needs.0 ≡ 4
    → ((played : List ChainNode) (node : ChainNode) → node.region ≡ item.node.region → node.needs ≡ item.head.needs
    → node.text ≡ item.node.text → MayPlayNext played node → IsCausalMap old played → IsCausalMap new (played ++ node ∷ []))
    → IsCausalMap old (take place (chain_nodes items)) → IsCausalMap new (take (place + 1) (chain_nodes items))
keeps_more items old new place item played there four feeds fed =
    let all = chain_nodes items in
    subst (λ (n : ℕ). IsCausalMap new (take n all)) (let e : suc place ≡ place + 1 = omega arith in e)
    (subst (IsCausalMap new) (sym (taken_more [] items place item there))
    (feeds (take place all) (chain_node (take place items) item) refl refl refl
    (next_node items place item played there four) fed))
