-- What a node is told among others in rising key.
use Rattle.std.proofs.Common.{◌≡◌, ◌⊎◌, ◌∙◌, refl, ap, sym, subst, Bool, true, false, not, cond, ℕ, zero, suc, ◌+◌, ◌<◌, ◌≤◌, List, [], ◌∷◌, ◌++◌, length, take, drop, map, Option, Some, None, get_or, eqb, inl, inr, arith, append_assoc, take-append-drop, length-drop, length-take}
use Rattle.std.specs.Prelude.{IsTrue, slice_get}
use Rattle.std.specs.List.{Contains, find, take_while}
use Rattle.std.specs.List.Sorted.{IsPartitionedBy}
use Rattle.std.proofs.lemmas.Option.{get_or_from_slice_get, slice_get_within}
use Rattle.std.proofs.lemmas.Bool.{and_from, cases_Bool, cases_lt, eq-eqb, false_from_ne_true, true≢false}
use Rattle.std.proofs.lemmas.List.{append-nil, drop_more, length-append, map-append, take_more}
use Rattle.std.proofs.lemmas.List.Concat.{flat_map-append}
use Rattle.std.proofs.lemmas.List.Elements.{Contains-append_left, Contains-append_right}
use Rattle.std.proofs.lemmas.List.Sums.{take_while-cons}
use lib.ListN.{get_or-append}
use lib.Seq.{get_or-append-add, get_or-append_seam, get_or-drop, get_or-take}
use Rattle.log_node.specs.declared.ids.Key.{Key}
use Rattle.log_node.specs.declared.node.Node.{Node}
use Rattle.log_node.specs.Order.{key_below, same_key}
use Rattle.log_node.proofs.CallerLemmas.{get_map, get_within, key-irrefl, key-trans, same_id-refl, same_key-is, same_some}
use Rattle.object_fold.specs.Folds.{IsAbsent, told_among, told_of}
use Rattle.object_fold.specs.Nodes.{ObjectNode, nodes_before}
use Rattle.object_fold.specs.Transactions.{ruling, verdict_among, verdict_of}
use Rattle.object_fold.proofs.CallerLemmas.{found_there, passed_cond}
use Rattle.col_core.proofs.CallerLemmas.{In, contains_in, in_take}
use Rattle.playback.specs.Merging.{AreRising}
use Rattle.run_rules.specs.Computing.{node_read}
use Rattle.object_law.specs.NodeTables.{node_in, nodes_under}
use Rattle.object_law.specs.ToldNodes.{HasPlace, told_each, told_next}

module _ (own : Key) where
  abbrev is_own : ObjectNode → Bool
  is_own node = same_key node.key own

  none_found : (nodes : List ObjectNode) → IsAbsent own nodes → find is_own nodes ≡ None
  none_found [] a = refl
  none_found (n ∷ nodes) a = passed_cond (same_key n.key own) (Some n) (find is_own nodes) a.0 ∙ none_found nodes a.1

  before_there : (before : List ObjectNode) (node : ObjectNode) (behind : List ObjectNode) → IsAbsent own before
      → same_key node.key own ≡ true → nodes_before own (before ++ node ∷ behind) ≡ before
  before_there [] node behind a same =
      let p = λ (x : ObjectNode). not (same_key x.key own) in
      take_while-cons p node behind ∙ ap (λ (b : Bool). cond (not b) (node ∷ take_while p behind) []) same
  before_there (n ∷ before) node behind a same =
      let p = λ (x : ObjectNode). not (same_key x.key own) in
      take_while-cons p n (before ++ node ∷ behind)
      ∙ (ap (λ (b : Bool). cond (not b) (n ∷ take_while p (before ++ node ∷ behind)) []) a.0
      ∙ ap (λ (ns : List ObjectNode). n ∷ ns) (before_there before node behind a.1 same))

  absent_both : (xs ys : List ObjectNode) → IsAbsent own xs → IsAbsent own ys → IsAbsent own (xs ++ ys)
  absent_both [] ys a b = b
  absent_both (x ∷ xs) ys a b = (a.0, absent_both xs ys a.1 b)

  -- no node has the key, or there is a first one that has it
  record IsFirst (nodes : List ObjectNode) : Type 0 where
    before : List ObjectNode
    node : ObjectNode
    behind : List ObjectNode
    parts : nodes ≡ before ++ node ∷ behind
    others : IsAbsent own before
    same : same_key node.key own ≡ true

  first_or_none : (nodes : List ObjectNode) → IsFirst nodes ⊎ IsAbsent own nodes
  first_or_none [] = inr tt
  first_or_none (n ∷ nodes) = by (cases_Bool (same_key n.key own)) (first_or_none nodes) where
    by : (same_key n.key own ≡ true) ⊎ (same_key n.key own ≡ false) → IsFirst nodes ⊎ IsAbsent own nodes
        → IsFirst (n ∷ nodes) ⊎ IsAbsent own (n ∷ nodes)
    by (inl t) rest = inl (record { before = []; node = n; behind = nodes; parts = refl; others = tt; same = t })
    by (inr f) (inl x) = inl (record {
      before = n ∷ x.before;
      node = x.node;
      behind = x.behind;
      parts = ap (λ (l : List ObjectNode). n ∷ l) x.parts;
      others = (f, x.others);
      same = x.same;
    })
    by (inr f) (inr a) = inr (f, a)

  module _ {T : Type 0} (told : List ObjectNode → ObjectNode → Option T) where
    none_told : (nodes : List ObjectNode) → IsAbsent own nodes → told_of told nodes own ≡ None
    none_told nodes a = ap (told_among told nodes) (none_found nodes a)

    told_first : (before : List ObjectNode) (node : ObjectNode) (behind : List ObjectNode) → IsAbsent own before
        → same_key node.key own ≡ true → told_of told (before ++ node ∷ behind) own ≡ told before node
    told_first before node behind a same =
        ap (told_among told (before ++ node ∷ behind)) (found_there own before node behind a same)
        ∙ ap (λ (ns : List ObjectNode). told ns node)
        (ap (λ (k : Key). nodes_before k (before ++ node ∷ behind)) (same_key-is node.key own same)
        ∙ before_there before node behind a same)

    -- nodes behind that have not the key tell nothing of it
    told_front : (nodes more : List ObjectNode) → IsAbsent own more → told_of told (nodes ++ more) own ≡ told_of told nodes own
    told_front nodes more a = by (first_or_none nodes) where
      by : IsFirst nodes ⊎ IsAbsent own nodes → told_of told (nodes ++ more) own ≡ told_of told nodes own
      by (inl x) =
          ap (λ (l : List ObjectNode). told_of told l own)
          (ap (λ (l : List ObjectNode). l ++ more) x.parts ∙ append_assoc x.before (x.node ∷ x.behind) more)
          ∙ (told_first x.before x.node (x.behind ++ more) x.others x.same
          ∙ (sym (told_first x.before x.node x.behind x.others x.same)
          ∙ ap (λ (l : List ObjectNode). told_of told l own) (sym x.parts)))
      by (inr none) = none_told (nodes ++ more) (absent_both nodes more none a) ∙ sym (none_told nodes none)

  absent_read : (k : Key) (o : Option Node) (nodes : List ObjectNode) → same_key k own ≡ false → IsAbsent own nodes
      → IsAbsent own (node_read k o ++ nodes)
  absent_read k None nodes other rest = rest
  absent_read k (Some node) nodes other rest = (other, rest)

  -- no node of other keys has it
  pub absent_under : (table : List (List Node)) (keys : List Key) → ((k : Key) → In k keys → same_key k own ≡ false)
      → IsAbsent own (nodes_under table keys)
  absent_under table [] f = tt
  absent_under table (k ∷ keys) f =
      absent_read k (node_in table k.id) (nodes_under table keys) (f k (inl refl)) (absent_under table keys (λ x i. f x (inr i)))

-- IN RISING KEY

self_same : (key : Key) → same_key key key ≡ true
self_same key = and_from (eqb key.stamp key.stamp) _ (eq-eqb key.stamp key.stamp refl) (same_id-refl key.id)

other_below : (k own : Key) → key_below k own ≡ true → same_key k own ≡ false
other_below k own below =
    false_from_ne_true (same_key k own)
    (λ h. key-irrefl own (ap (λ (x : Key). key_below x own) (sym (same_key-is k own h)) ∙ below))

other_above : (k own : Key) → key_below own k ≡ true → same_key k own ≡ false
other_above k own below =
    false_from_ne_true (same_key k own)
    (λ h. key-irrefl own (ap (key_below own) (sym (same_key-is k own h)) ∙ below))

-- a key among others
module _ (before behind : List Key) (key : Key) (rises : AreRising (before ++ key ∷ behind)) where
  apart_before : (x : Key) → In x before → same_key x key ≡ false
  apart_before x i =
      let c = contains_in before x i in
      let at : get_or (before ++ key ∷ behind) c.0 x ≡ x = get_or-append before (key ∷ behind) x c.0 c.1 ∙ c.2 in
      let seam : get_or (before ++ key ∷ behind) (length before) x ≡ key = get_or-append_seam before key behind x in
      let size = length-append before (key ∷ behind) in
      let below : IsTrue (key_below x key) = rw (at, seam) at (rises c.0 (length before) x c.1 (omega arith)) in
      other_below x key below

  apart_behind : (x : Key) → In x behind → same_key x key ≡ false
  apart_behind x i =
      let c = contains_in behind x i in
      let at : get_or (before ++ key ∷ behind) (length before + suc c.0) x ≡ x =
      get_or-append-add before (key ∷ behind) (suc c.0) x ∙ c.2 in
      let seam : get_or (before ++ key ∷ behind) (length before) x ≡ key = get_or-append_seam before key behind x in
      let size = length-append before (key ∷ behind) in
      let less = c.1 in
      let below : IsTrue (key_below key x) =
      rw (at, seam) at (rises (length before) (length before + suc c.0) x (omega arith) (omega (arith, size, less))) in
      other_above x key below

  -- the node with it is told what it is told behind those before it
  told_there : {T : Type 0} (telling : List ObjectNode → ObjectNode → Option T) (table : List (List Node))
      → told_next telling (nodes_under table before) (node_read key (node_in table key.id))
      ≡ told_of telling (nodes_under table (before ++ key ∷ behind)) key
  told_there {T} telling table =
      by (node_in table key.id)
      ∙ ap (λ (l : List ObjectNode). told_of telling l key)
      (sym (flat_map-append (λ (k : Key). node_read k (node_in table k.id)) before (key ∷ behind))) where
        front : IsAbsent key (nodes_under table before)
        front = absent_under key table before apart_before

        back : IsAbsent key (nodes_under table behind)
        back = absent_under key table behind apart_behind

        by : (o : Option Node) → told_next telling (nodes_under table before) (node_read key o)
            ≡ told_of telling (nodes_under table before ++ (node_read key o ++ nodes_under table behind)) key
        by None =
            sym (none_told key telling (nodes_under table before ++ nodes_under table behind)
            (absent_both key (nodes_under table before) (nodes_under table behind) front back))
        by (Some node) =
            let own : ObjectNode = record { key = key; colours = node.colours; text = node.text } in
            sym (told_first key telling (nodes_under table before) own (nodes_under table behind) front (self_same key))

-- what is told of the next key is what is told of it by all
module _ (table : List (List Node)) (keys : List Key) (rises : AreRising keys) (n : ℕ) (d : Key) (lt : n < length keys) where
  abbrev next : Key
  next = get_or keys n d

  parts : keys ≡ take n keys ++ next ∷ drop (n + 1) keys
  parts = sym (take-append-drop n keys) ∙ ap (λ (l : List Key). take n keys ++ l) (drop_more keys n d lt)

  pub nodes_more : nodes_under table (take (n + 1) keys) ≡ nodes_under table (take n keys) ++ node_read next (node_in table next.id)
  nodes_more =
      ap (nodes_under table) (take_more keys n d lt)
      ∙ (flat_map-append (λ (k : Key). node_read k (node_in table k.id)) (take n keys) (next ∷ [])
      ∙ ap (λ (l : List ObjectNode). nodes_under table (take n keys) ++ l) (append-nil (node_read next (node_in table next.id))))

  module _ {T : Type 0} (telling : List ObjectNode → ObjectNode → Option T) where
    pub next_told : told_next telling (nodes_under table (take n keys)) (node_read next (node_in table next.id))
        ≡ told_of telling (nodes_under table keys) next
    next_told =
        told_there (take n keys) (drop (n + 1) keys) next (subst AreRising parts rises) telling table
        ∙ ap (λ (l : List Key). told_of telling (nodes_under table l) next) (sym parts)

    pub told_more : (told : Option T) (old new : List (Option T))
        → told ≡ told_next telling (nodes_under table (take n keys)) (node_read next (node_in table next.id)) → new ≡ old ++ told ∷ []
        → old ≡ map (told_of telling (nodes_under table keys)) (take n keys)
        → new ≡ map (told_of telling (nodes_under table keys)) (take (n + 1) keys)
    told_more told old new is more so =
        let f = told_of telling (nodes_under table keys) in
        more
        ∙ (ap (λ (l : List (Option T)). l ++ told ∷ []) so
        ∙ (ap (λ (t : Option T). map f (take n keys) ++ t ∷ []) (is ∙ next_told)
        ∙ (sym (map-append f (take n keys) (next ∷ [])) ∙ ap (map f) (sym (take_more keys n d lt)))))

-- THE PLACE OF A KEY

pub parted_below : (keys : List Key) (key : Key) → AreRising keys → IsPartitionedBy (λ other. key_below other key) keys
parted_below keys key rises i j d le lt h = by (cases_lt i j) where
  by : (i < j) ⊎ (j ≤ i) → key_below (get_or keys i d) key ≡ true
  by (inl under) = key-trans (get_or keys i d) (get_or keys j d) key (rises i j d under lt) h
  by (inr over) =
      let same : j ≡ i = omega (arith, le, over) in
      subst (λ (n : ℕ). key_below (get_or keys n d) key ≡ true) same h

module _ (keys : List Key) (key : Key) (rises : AreRising keys) (n : ℕ)
    (front : (k : ℕ) (d : Key) → k < n → k < length keys → key_below (get_or keys k d) key ≡ true)
    (back : (k : ℕ) (d : Key) → n ≤ k → k < length keys → key_below (get_or keys k d) key ≡ false) where
  pub place_none : length keys ≤ n → HasPlace keys key None
  place_none past other c =
      let less = c.1 in
      other_below other key
      (subst (λ (k : Key). key_below k key ≡ true) c.2 (front c.0 other (omega (arith, less, past)) less))

  module _ (found : Key) (lt : n < length keys) (is : get_or keys n found ≡ found) where
    pub place_there : same_key found key ≡ true → HasPlace keys key (Some n)
    place_there same =
        let there = get_within keys n lt in
        there.1 ∙ ap (λ (k : Key). Some k)
        (sym (get_or_from_slice_get keys n there.0 found there.1) ∙ (is ∙ same_key-is found key same))

    pub place_other : same_key found key ≡ false → HasPlace keys key None
    place_other not_same other c = by (cases_lt c.0 n) where
      behind : (k : ℕ) → k < length keys → n ≤ k → get_or keys k other ≡ other → (n < k) ⊎ (k ≤ n) → same_key other key ≡ false
      behind k less over at (inr under) =
          let e : k ≡ n = omega (arith, over, under) in
          let there = get_within keys n lt in
          let one : other ≡ found =
          sym at ∙ (ap (λ (m : ℕ). get_or keys m other) e
          ∙ (get_or_from_slice_get keys n there.0 other there.1
          ∙ (sym (get_or_from_slice_get keys n there.0 found there.1) ∙ is))) in
          subst (λ (x : Key). same_key x key ≡ false) (sym one) not_same
      behind k less over at (inl more) =
          false_from_ne_true (same_key other key)
          (λ h.
          let there = get_within keys n lt in
          let nth : get_or keys n other ≡ found =
          get_or_from_slice_get keys n there.0 other there.1
          ∙ (sym (get_or_from_slice_get keys n there.0 found there.1) ∙ is) in
          let up : key_below found key ≡ true =
          subst (λ (x : Key). key_below found x ≡ true) (at ∙ same_key-is other key h)
          (subst (λ (x : Key). key_below x (get_or keys k other) ≡ true) nth (rises n k other more less)) in
          let low : key_below found key ≡ false = subst (λ (x : Key). key_below x key ≡ false) is (back n found (omega arith) lt) in
          true≢false (sym up ∙ low))

      by : (c.0 < n) ⊎ (n ≤ c.0) → same_key other key ≡ false
      by (inl before) =
          let less = c.1 in
          other_below other key (subst (λ (k : Key). key_below k key ≡ true) c.2 (front c.0 other before less))
      by (inr over) = behind c.0 c.1 over c.2 (cases_lt n c.0)

-- WHAT IS TOLD UP TO A PLACE

module _ (table : List (List Node)) (keys : List Key) (rises : AreRising keys) (key : Key) (count : ℕ) where
  begun : nodes_under table keys ≡ nodes_under table (take count keys) ++ nodes_under table (drop count keys)
  begun =
      ap (nodes_under table) (sym (take-append-drop count keys))
      ∙ flat_map-append (λ (k : Key). node_read k (node_in table k.id)) (take count keys) (drop count keys)

  pub told_none : {T : Type 0} (telling : List ObjectNode → ObjectNode → Option T) → ((other : Key) → In other (take count keys) → same_key other key ≡ false)
      → told_of telling (nodes_under table (take count keys)) key ≡ None
  told_none telling others =
      none_told key telling (nodes_under table (take count keys)) (absent_under key table (take count keys) others)

  -- a key that stands among the first
  module _ (place : ℕ) (at : slice_get keys place ≡ Some key) (low : place < count) where
    later : (other : Key) → In other (drop count keys) → same_key other key ≡ false
    later other i =
        let c = contains_in (drop count keys) other i in
        let less = c.1 in
        let long = length-drop count keys in
        let in_keys : get_or keys (count + c.0) other ≡ other = sym (get_or-drop count keys c.0 other) ∙ c.2 in
        let same : get_or keys place other ≡ key = get_or_from_slice_get keys place key other at in
        let below : key_below key other ≡ true =
        subst (λ (x : Key). key_below key x ≡ true) in_keys
        (subst (λ (x : Key). key_below x (get_or keys (count + c.0) other) ≡ true) same
        (rises place (count + c.0) other (omega (arith, low)) (omega (arith, less, long)))) in
        other_above other key below

    pub told_front_place : {T : Type 0} (telling : List ObjectNode → ObjectNode → Option T)
        → told_of telling (nodes_under table (take count keys)) key ≡ told_of telling (nodes_under table keys) key
    told_front_place telling =
        sym (told_front key telling (nodes_under table (take count keys)) (nodes_under table (drop count keys))
        (absent_under key table (drop count keys) later))
        ∙ ap (λ (l : List ObjectNode). told_of telling l key) (sym begun)

  -- one that stands behind them
  pub told_behind : {T : Type 0} (telling : List ObjectNode → ObjectNode → Option T) (place : ℕ) → slice_get keys place ≡ Some key → count ≤ place
      → told_of telling (nodes_under table (take count keys)) key ≡ None
  told_behind telling place at over = told_none telling (λ other i.
      let c = contains_in (take count keys) other i in
      let less = c.1 in
      let long = length-take count keys in
      let lt : place < length keys = slice_get_within keys place key at in
      let k_low : c.0 < count = omega (arith, less, long) in
      let in_keys : get_or keys c.0 other ≡ other = sym (get_or-take count keys c.0 other k_low) ∙ c.2 in
      let same : get_or keys place other ≡ key = get_or_from_slice_get keys place key other at in
      let below : key_below other key ≡ true =
      subst (λ (x : Key). key_below other x ≡ true) same
      (subst (λ (x : Key). key_below x (get_or keys place other) ≡ true) in_keys
      (rises c.0 place other (omega (arith, k_low, over)) lt)) in
      other_below other key below)

-- WHAT IS TOLD UP TO A STAMP

module _ {T : Type 0} (telling : List ObjectNode → ObjectNode → Option T) (table : List (List Node)) (keys : List Key) (rises : AreRising keys) (own : Key) (count : ℕ) (begun : List Key)
    (is : take count keys ≡ begun) where
  pub told_up : (told : List (Option T)) → told ≡ told_each telling table keys → (place : ℕ) → HasPlace keys own (Some place)
      → place < count → (d : Option T) → get_or told place d ≡ told_of telling (nodes_under table begun) own
  told_up told are place at low d =
      let f = told_of telling (nodes_under table keys) in
      ap (λ (l : List (Option T)). get_or l place d) are
      ∙ (get_or_from_slice_get (map f keys) place (f own) d (get_map f keys place own at)
      ∙ (sym (told_front_place table keys rises own count place at low telling)
      ∙ ap (λ (l : List Key). told_of telling (nodes_under table l) own) is))

  pub none_up : (place : ℕ) → HasPlace keys own (Some place) → count ≤ place → None ≡ told_of telling (nodes_under table begun) own
  none_up place at over =
      sym (told_behind table keys rises own count telling place at over)
      ∙ ap (λ (l : List Key). told_of telling (nodes_under table l) own) is

  pub none_there : HasPlace keys own None → None ≡ told_of telling (nodes_under table begun) own
  none_there others =
      sym (told_none table keys rises own count telling
      (λ other i. others other (contains_in keys other (in_take count keys other i))))
      ∙ ap (λ (l : List Key). told_of telling (nodes_under table l) own) is

-- what a transaction is told is the verdict on it
pub told_verdict : (nodes : List ObjectNode) (own : Key) → told_of ruling nodes own ≡ verdict_of nodes own
told_verdict nodes own = among (find (λ (node : ObjectNode). same_key node.key own) nodes) where
  among : (node : Option ObjectNode) → told_among ruling nodes node ≡ verdict_among nodes node
  among None = refl
  among (Some node) = refl
