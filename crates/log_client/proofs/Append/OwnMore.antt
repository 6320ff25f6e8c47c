-- The nodes that a client appended, after an append to one colour or one that began a row.
use Rattle.std.proofs.Common.{◌≡◌, ◌≢◌, ℕ, ◌+◌, ◌<◌, List, [], ◌∷◌, ◌++◌, length, Some, slice_get, refl, ap, sym, subst, ◌∙◌, inl, inr, ◌⊎◌, arith, append-nil}
use Rattle.std.specs.Prelude.{◌==◌}
use Rattle.std.proofs.lemmas.Bool.{cases_eq}
use Rattle.log_node.specs.declared.ids.Id.{Id}
use Rattle.log_node.specs.declared.node.Node.{Node}
use Rattle.col_core.specs.declared.Event as event_types
use Rattle.col_core.specs.declared.Event.TheVariants as events
use Rattle.col_core.specs.Ids.{IsStepOf}
use Rattle.col_core.proofs.CallerLemmas.{in_filter, in_slice, slice_in}
use Rattle.stamp_board.specs.Views.{KnowsBegun}
use Rattle.stamp_board.proofs.CallerLemmas.{Learns-refl}
use Rattle.chain_store.specs.declared.told.Told.{Told}
use Rattle.chain_store.specs.declared.hold.Hold.{Hold}
use Rattle.chain_store.specs.declared.region.Region.{Region}
use Rattle.chain_store.specs.Histories.{maker}
use Rattle.chain_store.specs.Columns.{told_single}
use Rattle.chain_store.specs.Going.{GoesOn}
use Rattle.chain_store.specs.Owning.{row_of}
use Rattle.chain_store.specs.Holds.{IsHold, entries_seen, made_in, seen_in, view_of}
use Rattle.chain_store.proofs.CallerLemmas.{lawful_seen}
use Rattle.append_core.specs.declared.stood.Stood.{Stood}
use Rattle.append_core.specs.Standing.{IsSingleOf, HoldAppendsOne}
use Rattle.append_core.specs.Helping.{HelpsOpen}
use Rattle.log_client.specs.Fits.{HasGoneOn}
use Rattle.log_client.specs.Ending.{HasOwnNodes}
use Rattle.log_client.proofs.Lists.{mapped}
use Rattle.log_client.proofs.Append.Alone.{single_enters}
use Rattle.log_client.proofs.Known.Once.{entered_once}
use Rattle.log_client.proofs.Known.OwnNodes.{Brings, ids_then, own_nodes_on, stands_then}
use Rattle.log_client.proofs.Known.Truly.{WasMade, made_split}

pub step_no_single : (a b : Id) (e : event_types.Event) → IsStepOf a e → IsSingleOf b e → ⊥
step_no_single a b (events.Single other floor wants) p q = p
step_no_single a b (events.Propose other floor wants) p q = q
step_no_single a b (events.Settle other outcome) p q = q
step_no_single a b (events.Raise to) p q = q
step_no_single a b (events.Give region from) p q = q
step_no_single a b (events.Carry region start heads) p q = q
step_no_single a b (events.Trim counts) p q = q

-- a hold that stayed as it was
pub gone_on_same : (h : Hold) → HasGoneOn h h
gone_on_same h = record {
  number = refl;
  more = λ c. ([], append-nil (seen_in h c));
  size = refl;
  learns = Learns-refl (view_of h);
}

-- it brings nothing
brings_same : (number : ℕ) (nodes : List Node) (h : Hold) → Brings number nodes h h
brings_same number nodes h = record {
  on = gone_on_same h;
  singles = λ colour n t x at made single. inl (n, at);
  rows = λ j lt. inl lt;
}

-- one of the holds changed
one_changed : (number own : ℕ) (gs hs : List Hold) (g h : Hold) (nodes : List Node) → slice_get gs own ≡ Some g
    → slice_get hs own ≡ Some h → ((k : ℕ) → k ≢ own → slice_get hs k ≡ slice_get gs k) → Brings number nodes g h
    → (region : ℕ) (k : Hold) → slice_get hs region ≡ Some k
    → (j : Hold) × (slice_get gs region ≡ Some j) × Brings number nodes j k
one_changed number own gs hs g h nodes old new others brings region k at = elim (cases_eq region own) [
  | inl is ↦
      let same : Some h ≡ Some k = sym new ∙ (ap (slice_get hs) (sym is) ∙ at) in
      let one : h ≡ k = cc same in
      (g, ap (slice_get gs) is ∙ old, subst (λ (z : Hold). Brings number nodes g z) one brings)
  | inr ne ↦ (k, sym (others region ne) ∙ at, brings_same number nodes k)
]

module _ (number own : ℕ) (gs hs : List Hold) (g h : Hold) (nodes : List Node) (x : Node)
    (old : slice_get gs own ≡ Some g) (new : slice_get hs own ≡ Some h)
    (others : (k : ℕ) → k ≢ own → slice_get hs k ≡ slice_get gs k) (on : HasGoneOn g h)
    (id : x.id ≡ record { client = number; count = length nodes }) (has : HasOwnNodes number gs nodes) where
  with_brings : Brings number (nodes ++ x ∷ []) g h → HasOwnNodes number hs (nodes ++ x ∷ [])
  with_brings brings = own_nodes_on number gs hs nodes (x ∷ []) has (ids_then number nodes x has.ids id)
      (one_changed number own gs hs g h (nodes ++ x ∷ []) old new others brings)

  -- an append to one colour
  pub own_nodes_single : (r : Region) (colour : ℕ) (s : Stood) → IsHold r h → colour < r.board.size.colours
      → h.seat.used ≡ g.seat.used → HoldAppendsOne g h x colour s → HasOwnNodes number hs (nodes ++ x ∷ [])
  own_nodes_single r colour s rests lt used a = with_brings (record {
    on = on;
    singles = λ c n t y at made single.
        by_made c n t y at made single
        (made_split (λ k e. ((k ≡ colour) × IsSingleOf x.id e) ⊎ HelpsOpen g h e) g h c n t a.goes at);
    rows = λ j less. inl (subst (λ (m : ℕ). j < m) used less);
  }) where
    -- what it made it has seen
    place_of : (n : ℕ) (t : Told) → slice_get (made_in h colour) n ≡ Some t
        → (p : ℕ) × (slice_get (seen_in h colour) p ≡ Some t)
    place_of n t at =
        in_slice (seen_in h colour) t
        (in_filter (λ (u : Told). maker u == h.passes.number) t (seen_in h colour) (slice_in (made_in h colour) n t at)).0

    the_node : (n : ℕ) (t : Told) (y : Node) → slice_get (made_in h colour) n ≡ Some t → t.nodes ≡ y ∷ []
        → IsSingleOf x.id t.entry.event → x ≡ y
    the_node n t y at made single =
        let p = place_of n t at in
        let it = told_single colour g.passes.number x a.stamp in
        let same = entered_once r.number r.regions (entries_seen h colour) (lawful_seen r h colour rests lt) x.id p.0 a.place
        t.entry it.entry (mapped (λ (u : Told). u.entry) (seen_in h colour) p.0 t p.1)
        (mapped (λ (u : Told). u.entry) (seen_in h colour) a.place it a.entered)
        (single_enters x.id t.entry.event single) (single_enters x.id it.entry.event refl) in
        let one : Some t ≡ Some it = sym p.1 ∙ (ap (slice_get (seen_in h colour)) same ∙ a.entered) in
        let told : t ≡ it = cc one in
        let lists : y ∷ [] ≡ x ∷ [] = sym made ∙ ap (λ (u : Told). u.nodes) told in
        let so : x ≡ y = cc lists in
        so

    by_made : (c n : ℕ) (t : Told) (y : Node) → slice_get (made_in h c) n ≡ Some t → t.nodes ≡ y ∷ []
        → IsSingleOf y.id t.entry.event
        → WasMade g c t ⊎ (((c ≡ colour) × IsSingleOf x.id t.entry.event) ⊎ HelpsOpen g h t.entry.event)
        → WasMade g c t ⊎ (slice_get (nodes ++ x ∷ []) y.id.count ≡ Some y)
    by_made c n t y at made single (inl was) = inl was
    by_made c n t y at made single (inr (inr helps)) = absurd (step_no_single helps.0 y.id t.entry.event helps.1 single)
    by_made c n t y at made single (inr (inl own_one)) =
        let is = the_node n t y (ap (λ (k : ℕ). slice_get (made_in h k) n) (sym own_one.0) ∙ at) made own_one.1 in
        inr (subst (λ (z : Node). slice_get (nodes ++ x ∷ []) z.id.count ≡ Some z) is (stands_then number nodes x id))

  -- an append that began the next row: what it made are no singles
  pub own_nodes_row : (Made : ℕ → event_types.Event → Type 0) → GoesOn Made g h
      → ((c : ℕ) (e : event_types.Event) (a : Id) → Made c e → IsSingleOf a e → ⊥)
      → h.seat.used ≡ g.seat.used + 1 → g.passes.number ≡ number
      → KnowsBegun (view_of h) (row_of g.passes.number g.seat.used) x → HasOwnNodes number hs (nodes ++ x ∷ [])
  own_nodes_row Made goes none used mine knows = with_brings (record {
    on = on;
    singles = λ c n t y at made single. elim (made_split Made g h c n t goes at) [
      | inl was ↦ inl was
      | inr new ↦ absurd (none c t.entry.event y.id new single)
    ];
    rows = λ j less. elim (cases_eq j g.seat.used) [
      | inl last ↦ inr (
        x,
        subst (λ (k : ℕ). KnowsBegun (view_of h) (row_of k j) x) mine
            (subst (λ (k : ℕ). KnowsBegun (view_of h) (row_of g.passes.number k) x) (sym last) knows),
        stands_then number nodes x id,
      )
      | inr before ↦ inl (omega (arith, less, used, before))
    ];
  })
