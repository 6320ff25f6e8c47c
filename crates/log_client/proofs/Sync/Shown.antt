-- What a look shows and what is played of it.
use Rattle.std.proofs.Common.{◌≡◌, inl, inr, ℕ, zero, suc, ◌-◌, ◌<◌, ◌≤◌, List, [], ◌∷◌, length, map, take, drop, max, Some, ap, sym, subst, ◌∙◌, arith}
use Rattle.std.specs.Prelude.{slice_get, slice_index_or}
use Rattle.std.specs.List.{AllZip}
use Rattle.std.proofs.lemmas.Bool.{cases_eq}
use Rattle.log_node.specs.declared.ids.Counts.{Counts}
use Rattle.log_node.specs.declared.limits.TheConstants.{MAX_STAMP}
use Rattle.log_node.specs.Seen.{PlacedNode}
use Rattle.log_node.specs.Vectors.{at, IsWithin}
use Rattle.log_node.proofs.CallerLemmas.{at-vector, within-at}
use Rattle.log_node.specs.Reach.{Chains, Reachable}
use Rattle.col_core.specs.declared.view.View.{View}
use Rattle.col_core.specs.Cuts.{chain}
use Rattle.col_core.specs.PlayOrder.{Place, Stands, nodes_between}
use Rattle.col_core.proofs.CallerLemmas.{cut-is_greatest}
use Rattle.playback.specs.Playing.{ShowsChains, ArePlayed, item_at, items_of, head_at}
use Rattle.playback.specs.Orders.{play_order}
use Rattle.playback.proofs.CallerLemmas.{shows_chains}
use Rattle.chain_store.specs.declared.told.Tag.{Tag}
use Rattle.chain_store.specs.declared.told.Told.{Told}
use Rattle.chain_store.specs.Histories.{entries_in, Names}
use Rattle.chain_store.specs.Passes.{ShowsHistory, IsLawfulTold, dated_in}
use Rattle.chain_store.proofs.CallerLemmas.{own_stamped}
use Rattle.lawful_run.specs.Reads.{greatest_stamp}
use Rattle.log_client.specs.Clients.{PlaysNodes}

-- the chains of a column with this history
abbrev pub chains_in : Tag → List Told → Chains
chains_in t log = chain t.region (dated_in t log)

-- where in the view an item is found, and that its region is one of four
found_in : {A : Type 0} (lists : List (List A)) (r n : ℕ) (x : A) → slice_get (slice_index_or lists r []) n ≡ Some x
    → r < length lists
found_in [] r n x e = absurd (let f : ⊥ = cc (e) in f)
found_in (l ∷ lists) zero n x e = omega arith
found_in (l ∷ lists) (suc r) n x e = let lt = found_in lists r n x e in omega (arith, lt)

module _ (t : Tag) (log : List Told) (from : Counts) (view : View) (shows : ShowsHistory t log from view) where
  pub shows_its_chains : ShowsChains view (chains_in t log)
  shows_its_chains = shows_chains view (chains_in t log) shows.heads

  pub its_cut_reached : Reachable (chains_in t log) view.cut
  its_cut_reached = subst (Reachable (chains_in t log)) (sym shows.cut) (cut-is_greatest t.region (dated_in t log)).reached

  -- the own line that it shows
  module _ (few : t.region < 4) where
    pub own_shown : IsWithin view.base from → map (λ (i : PlacedNode). i.head) (items_of view t.region)
        ≡ nodes_between (chains_in t log) from view.cut t.region
    own_shown within =
        let low = within-at view.base from within t.region few in
        let greatest = at-vector (λ region. max (at from region) (at view.base region)) t.region few in
        let start : at view.from t.region ≡ at from t.region =
        ap (λ (v : Counts). at v t.region) shows.start ∙ omega (arith, low, greatest) in
        shows_its_chains t.region few
        ∙ ap (λ (n : ℕ). drop n (take (at view.cut t.region) (chains_in t log t.region))) start

    pub own_named : (n : ℕ) (item : PlacedNode) → slice_get (items_of view t.region) n ≡ Some item
        → Names log item.head.key.id item.node
    own_named n item e = shows.nodes t.region n item few e

  -- a node that the view shows at a place
  named_at : (place : Place) (item : PlacedNode) → item_at view place ≡ Some item
      → Names log item.head.key.id item.node
  named_at place item e =
      let lt = found_in view.items place.region (place.position - at view.from place.region) item e in
      let few = shows.chains in
      shows.nodes place.region (place.position - at view.from place.region) item (omega (arith, lt, few)) e

  stamped_at : IsLawfulTold t log → (place : Place) (item : PlacedNode) → item_at view place ≡ Some item
      → head_at (chains_in t log) place ≡ Some item.head → item.head.key.stamp ≤ MAX_STAMP
  stamped_at lawful place item e head = elim (cases_eq place.region t.region) [
    | inl own ↦
        own_stamped t.region t.regions (entries_in log) lawful place.position item.head
        (subst (λ (r : ℕ). slice_get (chains_in t log r) place.position ≡ Some item.head) own head)
    | inr other ↦
        (let lt = found_in view.items place.region (place.position - at view.from place.region) item e in
        let few = shows.chains in
        shows.stamped place.region (place.position - at view.from place.region) item (omega (arith, lt, few)) other e)
  ]

  all_named : (order : List Place) (items : List PlacedNode) → map Some items ≡ map (item_at view) order
      → map (λ (i : PlacedNode). Some i.head) items ≡ map (head_at (chains_in t log)) order
      → AllZip (λ place (item : PlacedNode). Stands (chains_in t log) place item.head
      × Names log item.head.key.id item.node) order items
  all_named [] [] e h = tt
  all_named [] (i ∷ is) e h = absurd (let f : ⊥ = cc (e) in f)
  all_named (p ∷ ps) [] e h = absurd (let f : ⊥ = cc (e) in f)
  all_named (p ∷ ps) (i ∷ is) e h =
      let shown : Some i ≡ item_at view p = cc (e) in
      let head : Some i.head ≡ head_at (chains_in t log) p = cc (h) in
      let rest : map Some is ≡ map (item_at view) ps = cc (e) in
      let heads : map (λ (j : PlacedNode). Some j.head) is ≡ map (head_at (chains_in t log)) ps = cc (h) in
      ((sym head, named_at p i (sym shown)), all_named ps is rest heads)

  region_at : (place : Place) (item : PlacedNode) → item_at view place ≡ Some item → item.node.region ≡ place.region
  region_at place item e =
      let lt = found_in view.items place.region (place.position - at view.from place.region) item e in
      let few = shows.chains in
      shows.regions place.region (place.position - at view.from place.region) item (omega (arith, lt, few)) e

  all_of_regions : (order : List Place) (items : List PlacedNode) → map Some items ≡ map (item_at view) order
      → AllZip (λ place (item : PlacedNode). item.node.region ≡ place.region) order items
  all_of_regions [] [] e = tt
  all_of_regions [] (i ∷ is) e = absurd (let f : ⊥ = cc (e) in f)
  all_of_regions (p ∷ ps) [] e = absurd (let f : ⊥ = cc (e) in f)
  all_of_regions (p ∷ ps) (i ∷ is) e =
      let shown : Some i ≡ item_at view p = cc (e) in
      let rest : map Some is ≡ map (item_at view) ps = cc (e) in
      (region_at p i (sym shown), all_of_regions ps is rest)

  all_stamped : IsLawfulTold t log → (order : List Place) (items : List PlacedNode)
      → map Some items ≡ map (item_at view) order
      → map (λ (i : PlacedNode). Some i.head) items ≡ map (head_at (chains_in t log)) order
      → greatest_stamp items ≤ MAX_STAMP
  all_stamped lawful [] [] e h = omega arith
  all_stamped lawful [] (i ∷ is) e h = absurd (let f : ⊥ = cc (e) in f)
  all_stamped lawful (p ∷ ps) [] e h = absurd (let f : ⊥ = cc (e) in f)
  all_stamped lawful (p ∷ ps) (i ∷ is) e h =
      let shown : Some i ≡ item_at view p = cc (e) in
      let head : Some i.head ≡ head_at (chains_in t log) p = cc (h) in
      let rest : map Some is ≡ map (item_at view) ps = cc (e) in
      let heads : map (λ (j : PlacedNode). Some j.head) is ≡ map (head_at (chains_in t log)) ps = cc (h) in
      let one = stamped_at lawful p i (sym shown) (sym head) in
      let others = all_stamped lawful ps is rest heads in
      omega (arith, one, others)

  module _ (counts : Counts) (items : List PlacedNode)
      (played : ArePlayed view (chains_in t log) counts items) where
    pub plays_shown : IsWithin counts view.cut → PlaysNodes t.region log counts view.cut items
    plays_shown within = record {
      order = play_order (chains_in t log) counts view.cut;
      in_order = played.in_order;
      shown = all_named (play_order (chains_in t log) counts view.cut) items played.items_shown played.heads;
      regions = all_of_regions (play_order (chains_in t log) counts view.cut) items played.items_shown;
      within = within;
      reached = its_cut_reached;
    }

    pub plays_stamped : IsLawfulTold t log → greatest_stamp items ≤ MAX_STAMP
    plays_stamped lawful =
        all_stamped lawful (play_order (chains_in t log) counts view.cut) items played.items_shown played.heads
