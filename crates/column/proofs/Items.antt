-- The nodes of a line as one reads them.
use Rattle.std.proofs.Common.{◌≡◌, ◌≢◌, ℕ, zero, suc, ◌+◌, ◌-◌, ◌<◌, ◌≤◌, length-drop, List, [], ◌∷◌, ◌++◌}
use Rattle.std.proofs.Common.{length, take, drop, get_or, Some, refl, ap, sym, subst, ◌∙◌, arith}
use Rattle.std.specs.Prelude.{map, slice_get}
use Rattle.std.specs.List.{AllByRecursion}
use Rattle.std.proofs.lemmas.List.{take_more, take_all, length-take-le}
use Rattle.std.proofs.lemmas.Option.{none-some, same_Some}
use Rattle.log_node.specs.declared.ids.Key.{Key}
use Rattle.log_node.specs.declared.node.Head.{Head}
use Rattle.log_node.specs.Seen.{PlacedNode}
use Rattle.skeen_core.specs.declared.waiting.Waiting.{Waiting}
use Rattle.log_node.specs.declared.ids.Counts.{Counts}
use Rattle.log_node.specs.Vectors.{at}
use Rattle.log_node.specs.Standings.{line_of}
use Rattle.skeen_core.specs.Queues.{kept_entries, kept_count}
use Rattle.skeen_core.proofs.CallerLemmas.{each-drop}
use Rattle.col_core.specs.declared.Entry.{Entry}
use Rattle.col_core.specs.History.{line}
use Rattle.col_core.specs.Cuts.{needs_of, chain}
use Rattle.col_core.specs.Computed.{dated}
use Rattle.column.specs.Entering.{EnteredNode}
use Rattle.column.specs.Columns.{ColumnState, history_of, chains_of, held_of, copy_of, base_of, placed, items_under}
use Rattle.column.specs.Columns.{AreItems, HasStored, HasCarried}
use Rattle.column.specs.Inside.{IsEntered, IsColumn}
use Rattle.column.proofs.Histories.{length_map, own_heads, own_chain}
use Rattle.column.proofs.Lists.{map_drop, map_take, drop_twice, got_dropped, got_taken, got_map, map_got}
use Rattle.column.proofs.Lists.{dropped_at, each_at}
use Rattle.column.proofs.Moving.{base_held, own_held}

under-append : (keys : List Key) (nodes : List EnteredNode) (k : Key) (n : EnteredNode) → length keys ≡ length nodes
    → items_under (keys ++ k ∷ []) (nodes ++ n ∷ []) ≡ items_under keys nodes ++ placed k n ∷ []
under-append [] [] k n same = refl
under-append [] (m ∷ nodes) k n same = absurd (let f : ⊥ = omega (arith, same) in f)
under-append (l ∷ keys) [] k n same = absurd (let f : ⊥ = omega (arith, same) in f)
under-append (l ∷ keys) (m ∷ nodes) k n same =
    ap (λ (is : List PlacedNode). placed l m ∷ is) (under-append keys nodes k n (omega (arith, same)))

-- one node more
pub under_more : (keys : List Key) (nodes : List EnteredNode) (n : ℕ) (k : Key) (e : EnteredNode) → length keys
    ≡ length nodes → n < length keys
    → items_under (take (n + 1) keys) (take (n + 1) nodes) ≡ items_under (take n keys) (take n nodes)
    ++ placed (get_or keys n k) (get_or nodes n e) ∷ []
under_more keys nodes n k e same lt =
    let a = length-take-le n keys (omega (arith, lt)) in
    let b = length-take-le n nodes (omega (arith, lt, same)) in
    ap (λ (ks : List Key). items_under ks (take (n + 1) nodes)) (take_more keys n k lt)
    ∙ (ap (items_under (take n keys ++ get_or keys n k ∷ [])) (take_more nodes n e (omega (arith, lt, same)))
    ∙ under-append (take n keys) (take n nodes) (get_or keys n k) (get_or nodes n e) (omega (arith, a, b)))

module _ (region colour : ℕ) (journal : List Entry) where
  -- the nodes under the keys of stored entries have the heads that the history tells
  stored_heads : (ws : List (Waiting EnteredNode)) → AllByRecursion (IsEntered region colour journal) ws
      → map (λ (i : PlacedNode). i.head)
      (items_under (map (λ (w : Waiting EnteredNode). w.key) ws) (map (λ (w : Waiting EnteredNode). w.thing) ws))
      ≡ map (λ (key : Key). let h : Head = record { key = key; needs = needs_of (dated region journal) key.id } in h)
      (map (λ (w : Waiting EnteredNode). w.key) ws)
  stored_heads [] h = refl
  stored_heads (w ∷ ws) h =
      ap (λ (v : Counts). let a : Head = record { key = w.key; needs = v } in a ∷ map (λ (i : PlacedNode). i.head)
      (items_under (map (λ (w : Waiting EnteredNode). w.key) ws) (map (λ (w : Waiting EnteredNode). w.thing) ws)))
      (sym h.0.needs)
      ∙ ap (λ (hs : List Head). let a : Head =
      record { key = w.key; needs = needs_of (dated region journal) w.key.id } in a ∷ hs) (stored_heads ws h.1)

-- and are the stored nodes
stored_at : (ws : List (Waiting EnteredNode)) (n : ℕ) (i : PlacedNode)
    → slice_get (items_under (map (λ (w : Waiting EnteredNode). w.key) ws)
    (map (λ (w : Waiting EnteredNode). w.thing) ws)) n ≡ Some i
    → (w : Waiting EnteredNode) × (slice_get ws n ≡ Some w) × (placed w.key w.thing ≡ i)
stored_at [] n i is = absurd (none-some i is)
stored_at (w ∷ ws) zero i is = (w, refl, same_Some (placed w.key w.thing) i is)
stored_at (w ∷ ws) (suc n) i is = stored_at ws n i is

each-taken : {A : Type 0} (P : A → Type 0) (n : ℕ) (xs : List A) → AllByRecursion P xs → AllByRecursion P (take n xs)
each-taken P zero xs h = tt
each-taken P (suc n) [] h = tt
each-taken P (suc n) (x ∷ xs) h = (h.0, each-taken P n xs h.1)

-- the keys of the entries that are kept, and their nodes
module _ (column : ColumnState) (h : IsColumn column)
    (same : map (λ (w : Waiting EnteredNode). w.key) (kept_entries column.queue)
    ≡ drop column.queue.base (line_of column.queue.entries)) where
  abbrev head : Key → Head
  head key = record { key = key; needs = needs_of (history_of column) key.id }

  lines : line_of column.queue.entries ≡ line column.journal
  lines = ap line_of h.entries_are

  chain_is : chains_of column column.region ≡ map head (line_of column.queue.entries)
  chain_is = own_chain column.region column.journal ∙ ap (map head) (sym lines)

  kept_things : AllByRecursion (IsEntered column.region column.colour column.journal) (kept_entries column.queue)
  kept_things = each-taken (IsEntered column.region column.colour column.journal) (kept_count column.queue)
      column.queue.stored h.things

  pub kept_length : column.queue.base + length (map (λ (w : Waiting EnteredNode). w.thing) (kept_entries column.queue))
      ≡ length (line_of column.queue.entries)
  kept_length =
      let a = length_map (λ (w : Waiting EnteredNode). w.thing) (kept_entries column.queue) in
      let b = length_map (λ (w : Waiting EnteredNode). w.key) (kept_entries column.queue) in
      let d = ap length same in
      let e = length-drop column.queue.base (line_of column.queue.entries) in
      let f = base_held column h column.region h.in_range in
      let g = own_held column h in
      let i = h.dropped in
      let j = ap length lines in
      omega (arith, a, b, d, e, f, g, i, j)

  -- a kept entry needs what the history tells
  pub kept_needs : (position k : ℕ) (thing : EnteredNode) (a : Head) → k + column.queue.base ≡ position
      → slice_get (map (λ (w : Waiting EnteredNode). w.thing) (kept_entries column.queue)) k ≡ Some thing
      → slice_get (chains_of column column.region) position ≡ Some a → thing.needs ≡ a.needs
  kept_needs position k thing a place at_k at_position =
      let w = got_map (λ (v : Waiting EnteredNode). v.thing) (kept_entries column.queue) k thing at_k in
      let key = got_map head (line_of column.queue.entries) position a
      (ap (λ (hs : List Head). slice_get hs position) (sym chain_is) ∙ at_position) in
      let there : slice_get (drop column.queue.base (line_of column.queue.entries)) k ≡ Some w.0.key =
      ap (λ (ks : List Key). slice_get ks k) (sym same)
      ∙ map_got (λ (v : Waiting EnteredNode). v.key) (kept_entries column.queue) k w.0 w.1 in
      let is : w.0.key ≡ key.0 = same_Some w.0.key key.0
      (sym there ∙ (dropped_at column.queue.base (line_of column.queue.entries) k position place ∙ key.1)) in
      let entered = each_at (IsEntered column.region column.colour column.journal) (kept_entries column.queue) k w.0
      kept_things w.1 in
      ap (λ (e : EnteredNode). e.needs) (sym w.2)
      ∙ (sym entered.needs
      ∙ (ap (λ (k : Key). needs_of (history_of column) k.id) is ∙ ap (λ (b : Head). b.needs) key.2))

  -- a kept entry stands in the line under its key, and in the chain with what it needs
  pub own_entry : (position k : ℕ) (key : Key) (thing : EnteredNode) → k + column.queue.base ≡ position
      → slice_get (line_of column.queue.entries) position ≡ Some key
      → slice_get (map (λ (w : Waiting EnteredNode). w.thing) (kept_entries column.queue)) k ≡ Some thing
      → HasStored column key thing.node
      × (slice_get (chains_of column column.region) position ≡ Some (record { key = key; needs = thing.needs }))
  own_entry position k key thing place at_position at_k =
      let w = got_map (λ (v : Waiting EnteredNode). v.thing) (kept_entries column.queue) k thing at_k in
      let there : slice_get (drop column.queue.base (line_of column.queue.entries)) k ≡ Some w.0.key =
      ap (λ (ks : List Key). slice_get ks k) (sym same)
      ∙ map_got (λ (v : Waiting EnteredNode). v.key) (kept_entries column.queue) k w.0 w.1 in
      let is : w.0.key ≡ key = same_Some w.0.key key
      (sym there ∙ (dropped_at column.queue.base (line_of column.queue.entries) k position place ∙ at_position)) in
      let entered = each_at (IsEntered column.region column.colour column.journal) (kept_entries column.queue) k w.0
      kept_things w.1 in
      let needs : needs_of (history_of column) key.id ≡ thing.needs =
      ap (λ (k : Key). needs_of (history_of column) k.id) (sym is)
      ∙ (entered.needs ∙ ap (λ (e : EnteredNode). e.needs) w.2) in (
        (
          k,
          w.0,
          got_taken (kept_count column.queue) column.queue.stored k w.0 w.1,
          is,
          ap (λ (e : EnteredNode). e.node) w.2,
        ),
        ap (λ (hs : List Head). slice_get hs position) chain_is
            ∙ (map_got head (line_of column.queue.entries) position key at_position
            ∙ ap (λ (v : Counts). let a : Head = record { key = key; needs = v } in Some a) needs),
      )

  -- the own nodes from a number on up to another
  module _ (from to first : ℕ) (low : first + column.queue.base ≡ from) where
    abbrev us : List (Waiting EnteredNode)
    us = take (to - from) (drop first (kept_entries column.queue))

    keys_are : take (to - from) (drop from (line_of column.queue.entries)) ≡ map (λ (w : Waiting EnteredNode). w.key) us
    keys_are =
        ap (take (to - from)) (sym (drop_twice first column.queue.base from (line_of column.queue.entries) low)
        ∙ (ap (drop first) (sym same)
        ∙ map_drop (λ (w : Waiting EnteredNode). w.key) first (kept_entries column.queue)))
        ∙ map_take (λ (w : Waiting EnteredNode). w.key) (to - from) (drop first (kept_entries column.queue))

    things_are : take (to - from) (drop first (map (λ (w : Waiting EnteredNode). w.thing) (kept_entries column.queue)))
        ≡ map (λ (w : Waiting EnteredNode). w.thing) us
    things_are =
        ap (take (to - from)) (map_drop (λ (w : Waiting EnteredNode). w.thing) first (kept_entries column.queue))
        ∙ map_take (λ (w : Waiting EnteredNode). w.thing) (to - from) (drop first (kept_entries column.queue))

    abbrev own_nodes : List PlacedNode
    own_nodes = items_under (map (λ (w : Waiting EnteredNode). w.key) us) (map (λ (w : Waiting EnteredNode). w.thing) us)

    heads_are : map (λ (i : PlacedNode). i.head) own_nodes ≡ take (to - from) (drop from (chains_of column column.region))
    heads_are =
        stored_heads column.region column.colour column.journal us
        (each-taken (IsEntered column.region column.colour column.journal) (to - from)
        (drop first (kept_entries column.queue))
        (each-drop (IsEntered column.region column.colour column.journal) first (kept_entries column.queue) kept_things))
        ∙ (ap (map head) (sym keys_are)
        ∙ (sym (map_take head (to - from) (drop from (line_of column.queue.entries)))
        ∙ (ap (take (to - from)) (sym (map_drop head from (line_of column.queue.entries)))
        ∙ ap (λ (hs : List Head). take (to - from) (drop from hs)) (sym chain_is))))

    nodes_are : (n : ℕ) (i : PlacedNode) → slice_get own_nodes n ≡ Some i → HasStored column i.head.key i.node
    nodes_are n i is =
        let w = stored_at us n i is in
        let d = got_dropped first (kept_entries column.queue) n w.0
        (got_taken (to - from) (drop first (kept_entries column.queue)) n w.0 w.1) in (
          d.0,
          w.0,
          got_taken (kept_count column.queue) column.queue.stored d.0 w.0 d.1,
          ap (λ (j : PlacedNode). j.head.key) w.2,
          ap (λ (j : PlacedNode). j.node) w.2,
        )

    pub own_items : AreItems column column.region from to
        (items_under (take (to - from) (drop from (line_of column.queue.entries)))
        (take (to - from) (drop first (map (λ (w : Waiting EnteredNode). w.thing) (kept_entries column.queue)))))
    own_items = subst (λ (ks : List Key). AreItems column column.region from to
        (items_under ks (take (to - from)
        (drop first (map (λ (w : Waiting EnteredNode). w.thing) (kept_entries column.queue))))))
        (sym keys_are)
        (subst (λ (ts : List EnteredNode). AreItems column column.region from to
        (items_under (map (λ (w : Waiting EnteredNode). w.key) us) ts)) (sym things_are)
        (record { heads = heads_are; nodes = λ is. nodes_are; carried = λ other. absurd (other refl) }))

-- carried nodes
module _ (column : ColumnState) (h : IsColumn column) (region : ℕ) (lt : region < 4) (other : region ≢ column.region) where
  pub carried_items : (from to first : ℕ) → first + at (base_of column) region ≡ from
      → AreItems column region from to (take (to - from) (drop first (copy_of column region)))
  carried_items from to first low = record {
    heads = sym (map_take (λ (i : PlacedNode). i.head) (to - from) (drop first (copy_of column region)))
        ∙ ap (take (to - from)) (sym (map_drop (λ (i : PlacedNode). i.head) first (copy_of column region))
        ∙ (ap (drop first) (h.copies.heads region lt other)
        ∙ drop_twice first (at (base_of column) region) from (chains_of column region) low));
    nodes = λ is. absurd (other is);
    carried = λ _ n i is. got_dropped first (copy_of column region) n i
        (got_taken (to - from) (drop first (copy_of column region)) n i is);
  }

  pub carried_need : (position k : ℕ) (item : PlacedNode) (a : Head) → k + at (base_of column) region ≡ position
      → slice_get (copy_of column region) k ≡ Some item → slice_get (chains_of column region) position ≡ Some a
      → item.head.needs ≡ a.needs
  carried_need position k item a place at_k at_position =
      ap (λ (b : Head). b.needs) (same_Some item.head a
      (sym (map_got (λ (i : PlacedNode). i.head) (copy_of column region) k item at_k)
      ∙ (ap (λ (hs : List Head). slice_get hs k) (h.copies.heads region lt other)
      ∙ (dropped_at (at (base_of column) region) (chains_of column region) k position place ∙ at_position))))

  pub copy_length : length (copy_of column region) ≡ held_of column region - at (base_of column) region
  copy_length =
      sym (length_map (λ (i : PlacedNode). i.head) (copy_of column region))
      ∙ (ap length (h.copies.heads region lt other) ∙ length-drop (at (base_of column) region) (chains_of column region))
