-- The nodes of a stamped read that have one of its colours are those of that colour's line, up to the stamp.
use Rattle.std.proofs.Common.{◌≡◌, ◌≢◌, ℕ, zero, suc, ◌<◌, ◌≤◌, List, [], ◌∷◌, map, Bool, true, false, cond, Option, Some, None, refl, ap, sym, subst, ◌∙◌, inl, inr, ◌⊎◌, arith, eq-eqb}
use Rattle.std.specs.Prelude.{◌==◌, IsTrue, not, ◌&&◌, nat_le, unwrap_or, slice_get}
use Rattle.std.specs.List.{filter, list_any, range_with_len}
use Rattle.std.proofs.lemmas.Bool.{true≢false, eqb-true, leb-true, le-leb, lt-ltb, or_left, or_cases}
use Rattle.std.proofs.lemmas.List.Kept.{AllPairs-filter}
use Rattle.log_node.specs.declared.ids.Id.{Id}
use Rattle.log_node.specs.declared.ids.Key.{Key}
use Rattle.log_node.specs.declared.ids.Colours.{Colours}
use Rattle.log_node.specs.declared.marks.Mark.{Mark}
use Rattle.log_node.specs.declared.marks.Mark.TheVariants as marks
use Rattle.log_node.specs.declared.marks.Why.TheVariants.{Memory, StampEnd}
use Rattle.log_node.specs.declared.marks.Outcome.{Outcome}
use Rattle.log_node.specs.declared.marks.Outcome.TheVariants.{Open, Gone, Final}
use Rattle.log_node.specs.declared.node.Node.{Node}
use Rattle.log_node.specs.Order.{key_below}
use Rattle.log_node.specs.Outcomes.{outcome_of, is_missing, is_stamp_end_fence, is_memory_fence}
use Rattle.log_node.specs.Sets.{has, members, set_of}
use Rattle.log_node.specs.Standings.{Standing}
use Rattle.log_node.specs.declared.limits.TheConstants.{MAX_COLOURS}
use Rattle.log_node.proofs.CallerLemmas.{has-set_of}
use Rattle.object_fold.specs.Nodes.{ObjectNode, nodes_of, shard_of}
use Rattle.object_fold.specs.Maps.{value_after, value_among}
use Rattle.col_core.specs.declared.Entry.{Entry}
use Rattle.col_core.specs.declared.Event.{Event}
use Rattle.col_core.specs.declared.Event.TheVariants as events
use Rattle.col_core.specs.History.{entries, entry_key, line, enters}
use Rattle.col_core.specs.RegionOrder.{IsClearUpTo, IsRegionOrder}
use Rattle.col_core.proofs.CallerLemmas.{apart, if_true, same_id-true, both, not_true, In, in_filter, in_filter-back, in_line, contains_in, in_contains, key-irrefl, key-trans, key-stamps, Status, Waits, Settled, standing_of}
use Rattle.world_laws.specs.Worlds.{World, RowState, home_of, home_history, no_row, marks_of, is_member}
use Rattle.world_laws.specs.Laws.{IsReached}
use Rattle.world_laws.proofs.CallerLemmas.{Held, Agrees, Fits, Kind, OfRow, FitsEvent, FitsSingle, status_in, column_mark, entry_shown, final_is, any_mark, number_within, colour_in, in_colours, colour_of_mark, in_map}
use Rattle.playback.specs.Merging.{up_to, AreRising}
use Rattle.script_meaning.specs.Helping.{node_by_id, open_below}
use Rattle.script_meaning.specs.Stamped.{keys_read}
use Rattle.script_meaning.specs.Dequeues.{object_node_at}
use Rattle.script_meaning.specs.Gets.{value_up_to}
use Rattle.script_meaning.proofs.World.ChainNodes.{line_event}
use Rattle.script_meaning.proofs.World.Clearing.{IsClear}
use Rattle.script_meaning.proofs.World.Lines.{in_clear_line}
use Rattle.script_meaning.proofs.Lists.{in_map_back, range_in}
use Rattle.script_meaning.proofs.World.Reached.{held_of, told_of, listed_of}
use Rattle.script_meaning.proofs.World.Rows.{in_past, standing_as}
use Rattle.script_meaning.proofs.Read.StampedEnds.{rising_line, keys_ordered}

-- LISTS

-- each key comes before all behind it
abbrev Rises : List Key → Type 0
Rises [] = Unit {0}
Rises (key ∷ keys) = ((k : Key) → In k keys → key_below key k ≡ true) × Rises keys

rises_of : (keys : List Key) → AreRising keys → Rises keys
rises_of [] r = tt
rises_of (key ∷ keys) r = (
  λ k i. let c = contains_in keys k i in
      subst (λ (x : Key). key_below key x ≡ true) c.2 (r zero (suc c.0) k (omega arith) (let l = c.1 in omega (arith, l))),
  rises_of keys (λ i j d lt there. r (suc i) (suc j) d (omega (arith, lt)) (omega (arith, there))),
)

-- two lists that rise and have the same keys are one
same_rising : (a b : List Key) → Rises a → Rises b → ((k : Key) → In k a → In k b) → ((k : Key) → In k b → In k a)
    → a ≡ b
same_rising [] [] r s f g = refl
same_rising [] (y ∷ b) r s f g = absurd (g y (inl refl))
same_rising (x ∷ a) [] r s f g = absurd (f x (inl refl))
same_rising (x ∷ a) (y ∷ b) r s f g = rest (first (f x (inl refl)) (g y (inl refl))) (same_rising a b r.1 s.1) where
  first : (y ≡ x) ⊎ In x b → (x ≡ y) ⊎ In y a → x ≡ y
  first (inl e) j = sym e
  first (inr i) (inl e) = e
  first (inr i) (inr j) = absurd (key-irrefl x (key-trans x y x (r.0 y j) (s.0 x i)))

  later : (k p : Key) (xs : List Key) → key_below p k ≡ true → (p ≡ k) ⊎ In k xs → In k xs
  later k p xs below (inl e) = absurd (key-irrefl p (subst (λ (q : Key). key_below p q ≡ true) (sym e) below))
  later k p xs below (inr i) = i

  rest : x ≡ y → (((k : Key) → In k a → In k b) → ((k : Key) → In k b → In k a) → a ≡ b) → x ∷ a ≡ y ∷ b
  rest e same =
      ap (λ (k : Key). k ∷ a) e
      ∙ ap (λ (l : List Key). y ∷ l) (same
      (λ k i. later k y b (subst (λ (p : Key). key_below p k ≡ true) e (r.0 k i)) (f k (inr i)))
      (λ k i. later k x a (subst (λ (p : Key). key_below p k ≡ true) (sym e) (s.0 k i)) (g k (inr i))))

-- the nodes with a colour are those of the keys whose nodes have it
nodes_filtered : (w : World) (colour : ℕ) (keys : List Key)
    → nodes_of colour (map (object_node_at w) keys)
    ≡ map (object_node_at w) (filter (λ k. has (object_node_at w k).colours colour) keys)
nodes_filtered w colour [] = refl
nodes_filtered w colour (k ∷ keys) = by (has (object_node_at w k).colours colour) (nodes_filtered w colour keys) where
  by : (b : Bool) → nodes_of colour (map (object_node_at w) keys)
      ≡ map (object_node_at w) (filter (λ x. has (object_node_at w x).colours colour) keys)
      → cond b (object_node_at w k ∷ nodes_of colour (map (object_node_at w) keys)) (nodes_of colour (map (object_node_at w) keys))
      ≡ map (object_node_at w) (cond b (k ∷ filter (λ x. has (object_node_at w x).colours colour) keys)
      (filter (λ x. has (object_node_at w x).colours colour) keys))
  by true rest = ap (λ (l : List ObjectNode). object_node_at w k ∷ l) rest
  by false rest = rest

-- a set of one colour has it, and no other
has_alone : (c : ℕ) → has (set_of (c ∷ [])) c ≡ true
has_alone c = has-set_of (c ∷ []) c ∙ or_left (c == c) false (eq-eqb c c refl)

only_colour : (c s : ℕ) → has (set_of (c ∷ [])) s ≡ true → c ≡ s
only_colour c s t = turn (or_cases (c == s) false (sym (has-set_of (c ∷ []) s) ∙ t)) where
  turn : ((c == s) ≡ true) ⊎ (false ≡ true) → c ≡ s
  turn (inl e) = eqb-true c s e
  turn (inr n) = absurd (true≢false (sym n))

number_set : (m : Mark) (s : ℕ) → m ≡ marks.Number s → m ≢ marks.None
number_set m s e n = cc

-- STATUSES

-- where an entry of a row is settled, the row's outcome is final under its stamp
decided : (id : Id) (m : Mark) (last : Outcome) (st : Status) (x : Standing) → Agrees m last st
    → standing_of id st ≡ Some x → x.settled ≡ true → last ≡ Final x.key.stamp
decided id marks.None last st x a shows settled =
    let e : None ≡ Some x = ap (standing_of id) (sym a) ∙ shows in absurd (let f : ⊥ = cc in f)
decided id (marks.Fenced why) last st x a shows settled =
    let e : None ≡ Some x = ap (standing_of id) (sym a) ∙ shows in absurd (let f : ⊥ = cc in f)
decided id (marks.Number s) last st x (inl waits) shows settled =
    let e : Some (standing_as s id false) ≡ Some x = ap (standing_of id) (sym waits) ∙ shows in
    let f : standing_as s id false ≡ x = cc in
    absurd (true≢false (sym settled ∙ ap (λ (y : Standing). y.settled) (sym f)))
decided id (marks.Number s) last st x (inr p) shows settled = by last (ap (standing_of id) (sym p.1) ∙ shows) where
  by : (o : Outcome) → standing_of id (Settled o) ≡ Some x → o ≡ Final x.key.stamp
  by Open e = absurd (let f : ⊥ = cc in f)
  by (Gone why) e = absurd (let f : ⊥ = cc in f)
  by (Final f) e =
      let same : standing_as f id true ≡ x = cc in ap (λ (y : Standing). Final y.key.stamp) same

module _ (w : World) (reached : IsReached w) where
  abbrev held : Held w
  held = held_of w reached

  -- how an id entered a column: alone, or as that of a row
  data EnteredAs (r c : ℕ) (id : Id) : Type 0 where
    alone : (node : Node) → node_by_id w id ≡ Some node → node.colours ≡ set_of (c ∷ []) → EnteredAs r c id
    of_row : (number stamp : ℕ) → number < (w.clients id.client).used → (w.rows id.client number).node.id ≡ id
        → r ≡ home_of w id.client → (w.rows id.client number).marks c ≡ marks.Number stamp → EnteredAs r c id

  entered_as : (r c : ℕ) (e : Entry) → In e (w.histories r c) → (ev : Event) → e.event ≡ ev → (id : Id)
      → enters id ev ≡ true → EnteredAs r c id
  entered_as r c e i (events.Single other floor wants) is id t =
      let f = subst (λ (ev : Event). FitsSingle w r c e.by ev) is ((listed_of w reached).singles r c e i) in
      alone f.node (ap (node_by_id w) (same_id-true id other t) ∙ f.listed) f.of_colour
  entered_as r c e i (events.Propose other floor wants) is id t =
      let f = subst (λ (ev : Event). FitsEvent w r c ev e.stamp) is ((told_of w reached).events r c e i) in
      subst (EnteredAs r c) (sym (same_id-true id other t)) (of_row f.number e.stamp f.begun f.is f.home f.mark)
  entered_as r c e i (events.Settle other o) is id t = absurd (true≢false (sym t))
  entered_as r c e i (events.Raise to) is id t = absurd (true≢false (sym t))
  entered_as r c e i (events.Give region from) is id t = absurd (true≢false (sym t))
  entered_as r c e i (events.Carry region start heads) is id t = absurd (true≢false (sym t))
  entered_as r c e i (events.Trim counts) is id t = absurd (true≢false (sym t))

  line_entered : (r c : ℕ) (k : Key) → In k (line (w.histories r c)) → EnteredAs r c k.id
  line_entered r c k i =
      let e = line_event w reached r c k i in entered_as r c e.0 e.1 e.0.event refl k.id e.2

  -- the node of a row is listed
  row_node : (id : Id) (number : ℕ) → number < (w.clients id.client).used → (w.rows id.client number).node.id ≡ id
      → node_by_id w id ≡ Some (w.rows id.client number).node
  row_node id number low is =
      ap (λ (x : Id). slice_get (w.nodes id.client) x.count) (sym is) ∙ (listed_of w reached).rows id.client number low

  colours_are : (k : Key) (node : Node) → node_by_id w k.id ≡ Some node → (object_node_at w k).colours ≡ node.colours
  colours_are k node there = ap (λ (x : Option Node). (unwrap_or x no_row.node).colours) there

  -- the node of a line's key has the line's colour
  has_own : (r c : ℕ) (k : Key) → In k (line (w.histories r c)) → has (object_node_at w k).colours c ≡ true
  has_own r c k i = turn (line_entered r c k i) where
    turn : EnteredAs r c k.id → has (object_node_at w k).colours c ≡ true
    turn (alone node there only) =
        subst (λ (s : Colours). has s c ≡ true) (sym (colours_are k node there ∙ only)) (has_alone c)
    turn (of_row number stamp begun is home mark) =
        let node = (w.rows k.id.client number).node in
        subst (λ (s : Colours). has s c ≡ true) (sym (colours_are k node (row_node k.id number begun is)))
        (in_filter (has node.colours) c (range_with_len 0 MAX_COLOURS)
        (colour_in (members node.colours) c
        (colour_of_mark w held (record { client = k.id.client; number = number }) c
        (lt-ltb number (w.clients k.id.client).used begun)
        (number_set ((w.rows k.id.client number).marks c) stamp mark)))).1

  -- where a column has no open entry up to a stamp
  module _ (r s stamp : ℕ) (small : s < MAX_COLOURS) (clear : IsClearUpTo stamp (w.histories r s)) where
    above : (x : Standing) → In x (entries (w.histories r s)) → x.settled ≡ false → stamp < x.key.stamp
    above x i unset =
        let c = contains_in (entries (w.histories r s)) x i in
        subst (λ (y : Standing). y.settled ≡ false → stamp < y.key.stamp) c.2 (clear c.0 x c.1) unset

    is_clear : (k : Key) → k.stamp ≤ stamp → IsClear k w r s
    is_clear k le = of_list (open_below k (w.histories r s)) refl where
      of_list : (es : List Standing) → open_below k (w.histories r s) ≡ es → es ≡ []
      of_list [] e = refl
      of_list (x ∷ es) e =
          let f = in_filter (λ (y : Standing). not y.settled && key_below y.key k) x (entries (w.histories r s))
          (subst (λ (l : List Standing). In x l) (sym e) (inl refl)) in
          let b = both (not x.settled) (key_below x.key k) f.1 in
          let lt = above x f.0 (not_true x.settled b.0) in
          let low = key-stamps x.key k b.1 in
          absurd (let z : ⊥ = omega (arith, lt, low, le) in z)

    -- a key of another line up to the stamp, where it is a row's and its node has this colour
    module _ (k : Key) (c : ℕ) (i : In k (line (w.histories r c))) (le : k.stamp ≤ stamp)
        (t : has (object_node_at w k).colours s ≡ true) (number : ℕ) (begun : number < (w.clients k.id.client).used)
        (is : (w.rows k.id.client number).node.id ≡ k.id) (home : r ≡ home_of w k.id.client) where
      abbrev row : RowState
      row = w.rows k.id.client number

      abbrev status : ℕ → Status
      status d = status_in (w.histories r d) k.id

      agrees : (d : ℕ) → Agrees (column_mark (home_of w k.id.client) row r d) row.last (status d)
      agrees d =
          let of_kind : held.kind k.id ≡ OfRow number =
          ap held.kind (sym is) ∙ (held.rows k.id.client number begun).of_id in
          (subst (λ (x : Kind). Fits w k.id x r d (status d)) of_kind (held.fits k.id r d)).agrees

      last : row.last ≡ Final k.stamp
      last =
          let x = in_line (entries (w.histories r c)) k i in
          let shows : standing_of k.id (status c) ≡ Some x.0 =
          ap (λ (y : Key). standing_of y.id (status_in (w.histories r c) y.id)) (sym x.2)
          ∙ entry_shown w held r c x.0 x.1 in
          decided k.id (column_mark (home_of w k.id.client) row r c) row.last (status c) x.0 (agrees c) shows x.3
          ∙ ap (λ (y : Key). Final y.stamp) x.2

      all : outcome_of (marks_of row) ≡ Final k.stamp
      all = turn (held.rows k.id.client number begun).kept where
        turn : (row.last ≡ Open) ⊎ (row.last ≡ outcome_of (marks_of row)) → outcome_of (marks_of row) ≡ Final k.stamp
        turn (inl unset) = let e : Open ≡ Final k.stamp = sym unset ∙ last in absurd (let f : ⊥ = cc in f)
        turn (inr e) = sym e ∙ last

      member : is_member row.node.colours s ≡ true
      member =
          in_colours (members row.node.colours) s
          (in_filter-back (has row.node.colours) s (range_with_len 0 MAX_COLOURS)
          (range_in 0 MAX_COLOURS s (omega arith) (omega (arith, small)))
          (subst (λ (x : Colours). has x s ≡ true) (colours_are k row.node (row_node k.id number begun is)) t))

      placed : (n : ℕ) → n ≤ k.stamp → (status s ≡ Waits n) ⊎ ((row.last ≢ Open) × (status s ≡ Settled row.last))
          → In k (line (w.histories r s))
      placed n low (inl waits) =
          let lt = above (standing_as n k.id false)
          (in_past w held r s k.id (standing_as n k.id false) (ap (standing_of k.id) waits)) refl in
          absurd (let z : ⊥ = omega (arith, lt, low, le) in z)
      placed n low (inr p) =
          in_clear_line w held r s k.stamp k.id
          (in_past w held r s k.id (standing_as k.stamp k.id true) (ap (standing_of k.id) (p.1 ∙ ap Settled last)))
          (is_clear (entry_key k.stamp k.id) le)

      by_mark : (m : Mark) → row.marks s ≡ m → In k (line (w.histories r s))
      by_mark marks.None e =
          absurd (apart (list_any is_missing (marks_of row))
          (any_mark is_missing row.marks (members row.node.colours) s member (ap is_missing e))
          (final_is (marks_of row) k.stamp all).0)
      by_mark (marks.Fenced StampEnd) e =
          absurd (apart (list_any is_stamp_end_fence (marks_of row))
          (any_mark is_stamp_end_fence row.marks (members row.node.colours) s member (ap is_stamp_end_fence e))
          (final_is (marks_of row) k.stamp all).1)
      by_mark (marks.Fenced Memory) e =
          absurd (apart (list_any is_memory_fence (marks_of row))
          (any_mark is_memory_fence row.marks (members row.node.colours) s member (ap is_memory_fence e))
          (final_is (marks_of row) k.stamp all).2)
      by_mark (marks.Number n) e =
          let within = number_within row.marks (members row.node.colours) s n member e in
          let top = (final_is (marks_of row) k.stamp all).3 in
          placed n (omega (arith, within, top))
          (subst (λ (m : Mark). Agrees m row.last (status s))
          (if_true (r == home_of w k.id.client) (row.marks s) marks.None (eq-eqb r (home_of w k.id.client) home) ∙ e)
          (agrees s))

      row_other : In k (line (w.histories r s))
      row_other = by_mark (row.marks s) refl

    -- a node of another line up to the stamp that has this colour stands in its line too
    in_other : (c : ℕ) (k : Key) → In k (line (w.histories r c)) → k.stamp ≤ stamp
        → has (object_node_at w k).colours s ≡ true → In k (line (w.histories r s))
    in_other c k i le t = turn (line_entered r c k i) where
      turn : EnteredAs r c k.id → In k (line (w.histories r s))
      turn (alone node there only) =
          subst (λ (d : ℕ). In k (line (w.histories r d)))
          (only_colour c s (subst (λ (x : Colours). has x s ≡ true) (colours_are k node there ∙ only) t)) i
      turn (of_row number n begun is home mark) = row_other k c i le t number begun is home

  -- THE KEYS OF A READ

  module _ (u stamp : ℕ) (cs : List ℕ) (s : ℕ) (small : s < MAX_COLOURS) (i : In s cs)
      (clear : IsClearUpTo stamp (home_history w u s)) where
    abbrev lines : List (List Key)
    lines = map (λ c. line (home_history w u c)) cs

    abbrev keys : List Key
    keys = keys_read w u stamp cs

    order : IsRegionOrder lines stamp keys
    order = keys_ordered w reached u stamp cs

    abbrev with_colour : Key → Bool
    with_colour k = has (object_node_at w k).colours s

    abbrev is_low : Key → Bool
    is_low k = nat_le k.stamp stamp

    there : (k : Key) → In k (filter with_colour keys) → In k (up_to stamp (line (home_history w u s)))
    there k j =
        let f = in_filter with_colour k keys j in
        let o = order.no_other k (contains_in keys k f.0) in
        let m = in_map (λ c. line (home_history w u c)) cs o.1 (in_contains lines o.1 o.2) in
        in_filter-back is_low k (line (home_history w u s))
        (in_other (home_of w u) s stamp small clear m.0 k
        (subst (λ (l : List Key). In k l) (sym m.2) (in_contains o.1 k o.3)) o.0 f.1) (le-leb k.stamp stamp o.0)

    back : (k : Key) → In k (up_to stamp (line (home_history w u s))) → In k (filter with_colour keys)
    back k j =
        let l = line (home_history w u s) in
        let f = in_filter is_low k l j in
        in_filter-back with_colour k keys
        (in_contains keys k (order.all l k
        (contains_in lines l (in_map_back (λ c. line (home_history w u c)) cs s i)) (contains_in l k f.0)
        (leb-true k.stamp stamp f.1)))
        (has_own (home_of w u) s k f.0)

    shard_keys : filter with_colour keys ≡ up_to stamp (line (home_history w u s))
    shard_keys =
        same_rising (filter with_colour keys) (up_to stamp (line (home_history w u s)))
        (rises_of (filter with_colour keys) (AllPairs-filter (λ a b. IsTrue (key_below a b)) with_colour keys order.rising))
        (rises_of (up_to stamp (line (home_history w u s)))
        (AllPairs-filter (λ a b. IsTrue (key_below a b)) is_low (line (home_history w u s))
        (rising_line w reached (home_of w u) s))) there back

  -- a key's value over all nodes that are read is that over its shard's own line up to the stamp
  pub value_read : (u stamp : ℕ) (cs colours key : List ℕ) → shard_of colours key < MAX_COLOURS
      → In (shard_of colours key) cs → IsClearUpTo stamp (home_history w u (shard_of colours key))
      → value_up_to w u colours stamp key
      ≡ value_among colours (map (object_node_at w) (keys_read w u stamp cs)) key
  value_read u stamp cs colours key small i clear =
      let s = shard_of colours key in
      let l = up_to stamp (line (home_history w u s)) in
      if_true (s == s) (value_after key (map (object_node_at w) l)) None (eq-eqb s s refl)
      ∙ (ap (λ (ks : List Key). value_after key (map (object_node_at w) ks)) (sym (shard_keys u stamp cs s small i clear))
      ∙ ap (value_after key) (sym (nodes_filtered w s (keys_read w u stamp cs))))
