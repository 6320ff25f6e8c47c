-- The node at each place of a column's chains: it stands in its region's own line, and needs all that it wants.
use Rattle.std.proofs.Common.{◌≡◌, ◌≢◌, ◌⊎◌, inl, inr, ℕ, suc, ◌<◌, min, List, [], ◌∷◌, length, map, Some, true, false, refl, ap, sym, subst, ◌∙◌, arith, eq-eqb}
use Rattle.std.specs.Prelude.{◌==◌, slice_get, Option, unwrap_or}
use Rattle.std.specs.List.{range_with_len}
use Rattle.std.proofs.lemmas.Bool.{true≢false, eqb-true}
use Rattle.log_node.specs.declared.ids.Id.{Id}
use Rattle.log_node.specs.declared.ids.Key.{Key}
use Rattle.log_node.specs.declared.ids.Colours.{Colours}
use Rattle.log_node.specs.declared.ids.Counts.{Counts}
use Rattle.log_node.specs.declared.node.Head.{Head}
use Rattle.log_node.specs.declared.node.Node.{Node}
use Rattle.log_node.specs.Sets.{members}
use Rattle.log_node.specs.Vectors.{at, vector, least, IsWithin, all_regions}
use Rattle.log_node.specs.declared.limits.TheConstants.{MAX_COLOURS}
use Rattle.log_node.proofs.CallerLemmas.{same_vectors, members-one}
use Rattle.col_core.specs.declared.Event.{Event}
use Rattle.col_core.specs.declared.Event.TheVariants as events
use Rattle.col_core.specs.declared.Entry.{Entry}
use Rattle.col_core.specs.History.{line, enters}
use Rattle.col_core.specs.Cuts.{Dated, entries_of, needs_in, needs_of}
use Rattle.col_core.specs.Computed.{dated}
use Rattle.col_core.specs.PlayOrder.{Place}
use Rattle.col_core.specs.Rows.{node_wants, wants_of}
use Rattle.col_core.proofs.CallerLemmas.{by_test, apart, if_true, if_false, same_id-true, entries_dated, In, slice_in, head_with, within-at}
use Rattle.world_laws.specs.Worlds.{World, chains_after, no_row}
use Rattle.world_laws.specs.Laws.{IsReached, wants_in}
use Rattle.world_laws.proofs.CallerLemmas.{FitsEvent, FitsSingle, copy_within, own_chain_length, in_flat_map}
use Rattle.object_fold.specs.Causal.{ChainNode}
use Rattle.lawful_run.specs.Objects.{places_within}
use Rattle.lawful_run.proofs.CallerLemmas.{get-append}
use Rattle.script_meaning.specs.CausalGets.{causal_node}
use Rattle.script_meaning.specs.Helping.{node_by_id}
use Rattle.script_meaning.specs.Moves.{no_head}
use Rattle.script_meaning.proofs.World.ChainNodes.{line_event, own_chain, carried_of_region}
use Rattle.script_meaning.proofs.Lists.{in_range}
use Rattle.script_meaning.proofs.World.Playing.{at_or, got_at}
use Rattle.script_meaning.proofs.World.Reached.{held_of, told_of, listed_of, cuts_of}
use Rattle.log_node.proofs.CallerLemmas.{get_map}
use Rattle.col_core.proofs.CallerLemmas.{in_map as in_mapped}

-- Lists

mapped_in : (ds : List Dated) (d : Dated) → In d ds → In d.entry (entries_of ds)
mapped_in [] d i = absurd i
mapped_in (x ∷ ds) d (inl e) = inl (ap (λ (y : Dated). y.entry) e)
mapped_in (x ∷ ds) d (inr i) = inr (mapped_in ds d i)

-- the places of a vector are those that it counts
pub place_within : (v : Counts) (place : Place) → In place (places_within v) → (place.region < 4) × (place.position < at v place.region)
place_within v place i =
    let r = in_flat_map (λ region. map (λ position. place_of region position) (range_with_len 0 (at v region))) all_regions place i in
    let p = in_mapped (λ position. place_of r.0 position) (range_with_len 0 (at v r.0)) place r.2 in
    let same_region : r.0 ≡ place.region = ap (λ (x : Place). x.region) p.2 in
    let same_position : p.0 ≡ place.position = ap (λ (x : Place). x.position) p.2 in
    let low = (in_range 0 (at v r.0) p.0 p.1).1 in (
      subst (λ (n : ℕ). n < 4) same_region (few r.0 r.1),
      subst (λ (n : ℕ). n < at v place.region) same_position
          (subst (λ (n : ℕ). p.0 < at v n) same_region (omega (arith, low))),
    ) where
      place_of : ℕ → ℕ → Place
      place_of region position = record { region = region; position = position }

      few : (r : ℕ) → In r all_regions → r < 4
      few r (inl e) = omega (arith, e)
      few r (inr (inl e)) = omega (arith, e)
      few r (inr (inr (inl e))) = omega (arith, e)
      few r (inr (inr (inr (inl e)))) = omega (arith, e)
      few r (inr (inr (inr (inr none)))) = absurd none

-- Needs

-- where events enter an id, the first of them gives its needs
needs_from : (ds : List Dated) (id : Id) (x : Dated) → In x ds → enters id x.entry.event ≡ true
    → (n : ℕ) × (d : Dated) × (slice_get ds n ≡ Some d) × (enters id d.entry.event ≡ true)
    × (needs_of ds id ≡ needs_in d.entry.event d.cut_before)
needs_from [] id x i t = absurd i
needs_from (d ∷ ds) id x i t =
    by_test _ (enters id d.entry.event)
    (λ e. (0, d, refl, e, if_true (enters id d.entry.event) (needs_in d.entry.event d.cut_before) (needs_of ds id) e))
    (λ f. let r = needs_from ds id x (later f i) t in (
      suc r.0,
      r.1,
      r.2,
      r.3,
      if_false (enters id d.entry.event) (needs_in d.entry.event d.cut_before) (needs_of ds id) f ∙ r.4,
    )) where
      later : enters id d.entry.event ≡ false → (d ≡ x) ⊎ In x ds → In x ds
      later f (inl e) = absurd (true≢false (sym t ∙ (ap (λ (y : Dated). enters id y.entry.event) (sym e) ∙ f)))
      later f (inr j) = j

all_wanted : (wants cut : Counts) → IsWithin wants cut → least wants cut ≡ vector (λ r. at wants r)
all_wanted wants cut within =
    same_vectors (λ r. min (at wants r) (at cut r)) (λ r. at wants r)
    (λ r lt. let x = within-at wants cut within r lt in omega (arith, x))

-- a node needs all that it wants, where that is within the cut
needs_all : (ev : Event) (cut : Counts) (id : Id) → enters id ev ≡ true → IsWithin (wants_in ev) cut
    → needs_in ev cut ≡ vector (λ r. at (wants_in ev) r)
needs_all (events.Single other floor wants) cut id t within = all_wanted wants cut within
needs_all (events.Propose other floor wants) cut id t within = all_wanted wants cut within
needs_all (events.Settle _ _) cut id t within = absurd (true≢false (sym t))
needs_all (events.Raise _) cut id t within = absurd (true≢false (sym t))
needs_all (events.Give _ _) cut id t within = absurd (true≢false (sym t))
needs_all (events.Carry _ _ _) cut id t within = absurd (true≢false (sym t))
needs_all (events.Trim _) cut id t within = absurd (true≢false (sym t))

module _ (w : World) (reached : IsReached w) (c : ℕ) (low : c < MAX_COLOURS) where
  -- an event that enters a node wants what the node does
  wants_as : (r : ℕ) (e : Entry) → In e (w.histories r c) → (ev : Event) → e.event ≡ ev → (id : Id)
      → enters id ev ≡ true → (node : Node) × (node_by_id w id ≡ Some node) × (wants_in ev ≡ node_wants node c)
  wants_as r e i (events.Single other floor wants) is id t =
      let f = subst (λ (ev : Event). FitsSingle w r c e.by ev) is ((listed_of w reached).singles r c e i) in (
        f.node,
        ap (node_by_id w) (same_id-true id other t) ∙ f.listed,
        sym (ap (λ (s : Colours). wants_of (members s) f.node.wants c) f.of_colour
            ∙ (ap (λ (ms : List ℕ). wants_of ms f.node.wants c) (members-one c low)
            ∙ (ap (λ (vs : List Counts). wants_of (c ∷ []) vs c) f.wants_is
            ∙ if_true (c == c) wants _ (eq-eqb c c refl)))),
      )
  wants_as r e i (events.Propose other floor wants) is id t =
      let f = subst (λ (ev : Event). FitsEvent w r c ev e.stamp) is ((told_of w reached).events r c e i) in
      let l = (listed_of w reached).rows other.client f.number f.begun in (
        (w.rows other.client f.number).node,
        ap (node_by_id w) (same_id-true id other t)
            ∙ (ap (λ (x : Id). slice_get (w.nodes other.client) x.count) (sym f.is) ∙ l),
        sym f.wants_is,
      )
  wants_as r e i (events.Settle _ _) is id t = absurd (true≢false (sym t))
  wants_as r e i (events.Raise _) is id t = absurd (true≢false (sym t))
  wants_as r e i (events.Give _ _) is id t = absurd (true≢false (sym t))
  wants_as r e i (events.Carry _ _ _) is id t = absurd (true≢false (sym t))
  wants_as r e i (events.Trim _) is id t = absurd (true≢false (sym t))

  -- the node with a key of an own line: it needs what it wants
  line_needs : (r : ℕ) (k : Key) → In k (line (w.histories r c))
      → (node : Node) × (node_by_id w k.id ≡ Some node)
      × (needs_of (dated r (w.histories r c)) k.id ≡ vector (λ x. at (node_wants node c) x))
  line_needs r k i =
      let h = w.histories r c in
      let ds = dated r h in
      let e = line_event w reached r c k i in
      let x = in_mapped (λ (d : Dated). d.entry) ds e.0 (subst (λ (l : List Entry). In e.0 l) (sym (entries_dated r h)) e.1) in
      let f = needs_from ds k.id x.0 x.1 (ap (λ (y : Entry). enters k.id y.event) x.2 ∙ e.2) in
      let d = f.1 in
      let inside = subst (λ (l : List Entry). In d.entry l) (entries_dated r h) (mapped_in ds d (slice_in ds f.0 d f.2)) in
      let n = wants_as r d.entry inside d.entry.event refl k.id f.3 in (
        n.0,
        n.1,
        f.4
            ∙ (needs_all d.entry.event d.cut_before k.id f.3 ((cuts_of w reached).entered r c f.0 d f.2)
            ∙ ap (λ (v : Counts). vector (λ y. at v y)) n.2),
      )

  -- what stands at a place of the chains of a region's column
  pub record AtPlace (own r p : ℕ) : Type 0 where
    pub region : r < w.shape.regions
    pub key : Key
    pub node : Node
    -- it stands in its region's own line
    pub there : slice_get (line (w.histories r c)) p ≡ Some key
    pub listed : node_by_id w key.id ≡ Some node
    pub head : slice_get (chains_after own (w.histories own c) r) p
        ≡ Some (record { key = key; needs = vector (λ x. at (node_wants node c) x) })

  -- the own chain at a place, by the line
  in_chain : (r p : ℕ) (k : Key) (node : Node) → slice_get (line (w.histories r c)) p ≡ Some k
      → needs_of (dated r (w.histories r c)) k.id ≡ vector (λ x. at (node_wants node c) x)
      → slice_get (chains_after r (w.histories r c) r) p
      ≡ Some (record { key = k; needs = vector (λ x. at (node_wants node c) x) })
  in_chain r p k node there needs =
      let h = w.histories r c in
      subst (λ (l : List Head). slice_get l p ≡ Some (with_needs k (vector (λ x. at (node_wants node c) x))))
      (sym (own_chain r h))
      (get_map (head_with (dated r h)) (line h) p k there ∙ ap (λ (v : Counts). Some (with_needs k v)) needs) where
        with_needs : Key → Counts → Head
        with_needs key needs = record { key = key; needs = needs }

  -- a place of a region's own chain
  at_own : (own p : ℕ) → own < w.shape.regions → p < length (line (w.histories own c)) → AtPlace own own p
  at_own own p home lt =
      let k = got_at (line (w.histories own c)) p lt in
      let n = line_needs own k.0 (slice_in (line (w.histories own c)) p k.0 k.1) in
      record {
        region = home;
        key = k.0;
        node = n.0;
        there = k.1;
        listed = n.1;
        head = in_chain own p k.0 n.0 k.1 n.2;
      }

  own_length : (own : ℕ) → length (chains_after own (w.histories own c) own) ≡ length (line (w.histories own c))
  own_length own =
      own_chain_length own (dated own (w.histories own c))
      ∙ ap (λ (h : List Entry). length (line h)) (entries_dated own (w.histories own c))

  -- a place of another region's chain, of which there are true copies
  at_other : (own r p : ℕ) → r ≢ own → own < w.shape.regions → p < length (chains_after own (w.histories own c) r)
      → AtPlace own r p
  at_other own r p ne home lt =
      let held = chains_after own (w.histories own c) r in
      let os = dated r (w.histories r c) in
      let g = got_at held p lt in
      let there = carried_of_region w reached own c r g.0 ne (slice_in held p g.0 g.1) in
      let copy = (held_of w reached).copies c r own there home ne in
      let short = copy_within r own os (dated own (w.histories own c)) copy in
      let size : length (line (entries_of os)) ≡ length (line (w.histories r c)) =
      ap (λ (h : List Entry). length (line h)) (entries_dated r (w.histories r c)) in
      let x = at_own r p there (omega (arith, lt, short, size)) in
      record {
        region = there;
        key = x.key;
        node = x.node;
        there = x.there;
        listed = x.listed;
        head = g.1
            ∙ (sym (subst (λ (l : List Head). slice_get l p ≡ Some g.0) copy.beginning
            (get-append held copy.rest p g.0 g.1))
            ∙ x.head);
      }

  -- a place of a chain that a region's column holds
  pub at_place : (own r p : ℕ) → own < w.shape.regions → p < length (chains_after own (w.histories own c) r)
      → AtPlace own r p
  at_place own r p home lt =
      by_test _ (r == own) (λ t. mine (eqb-true r own t))
      (λ f. at_other own r p (λ e. apart (r == own) (eq-eqb r own e) f) home lt) where
        mine : r ≡ own → AtPlace own r p
        mine e =
            let size = own_length own in
            let here = subst (λ (x : ℕ). p < length (chains_after own (w.histories own c) x)) e lt in
            subst (λ (x : ℕ). AtPlace own x p) (sym e) (at_own own p home (omega (arith, here, size)))

  -- the node there, as a causal map reads it
  pub causal_node_is : (own r p : ℕ) (x : AtPlace own r p)
      → causal_node w (chains_after own (w.histories own c)) (record { region = r; position = p })
      ≡ record { region = r; position = p; needs = vector (λ y. at (node_wants x.node c) y); text = x.node.text }
  causal_node_is own r p x =
      let head : Head = record { key = x.key; needs = vector (λ y. at (node_wants x.node c) y) } in
      ap (λ (h : Head). read_as h.needs (unwrap_or (node_by_id w h.key.id) no_row.node))
      (at_or (chains_after own (w.histories own c) r) p head no_head x.head)
      ∙ ap (λ (o : Option Node). read_as head.needs (unwrap_or o no_row.node)) x.listed where
        read_as : Counts → Node → ChainNode
        read_as needs node = record { region = r; position = p; needs = needs; text = node.text }
