-- Nodes in rising key: two lists with the same nodes are one, and the verdict on a node is by the nodes below it.
use Rattle.std.proofs.Common.{◌≡◌, inl, inr, suc, Bool, true, false, not, List, [], ◌∷◌, map, Option, Some, None, refl, ap, sym, subst, ◌∙◌, arith}
use Rattle.std.specs.Prelude.{IsTrue}
use Rattle.std.specs.List.{AllPairs, filter, find, take_while}
use Rattle.std.proofs.lemmas.Bool.{and_from, eq-eqb}
use Rattle.std.proofs.lemmas.List.Kept.{AllPairs-cons}
use Rattle.std.proofs.lemmas.List.Sums.{take_while-cons}
use Rattle.log_node.specs.declared.ids.Key.{Key}
use Rattle.log_node.specs.Order.{key_below, same_key}
use Rattle.log_node.proofs.CallerLemmas.{key-irrefl, key-trans, same_id-refl, same_key-is}
use Rattle.object_form.specs.Readings.{form_of}
use Rattle.object_fold.specs.Nodes.{ObjectNode, nodes_before}
use Rattle.object_fold.specs.Transactions.{form_verdict, verdict_among, verdict_of, writes_after}
use Rattle.col_core.proofs.CallerLemmas.{all_in, by_test, choice, contains_in, if_false, if_true, In, in_filter, in_filter-back, in_map-back}
use Rattle.part_fold.specs.Agreement.{outcome}

-- each node is below all later ones
abbrev pub Rises : List ObjectNode → Type 0
Rises [] = Unit {0}
Rises (n ∷ ns) = ((m : ObjectNode) → In m ns → key_below n.key m.key ≡ true) × Rises ns

pub rises_from : (nodes : List ObjectNode)
    → AllPairs (λ (a b : Key). IsTrue (key_below a b)) (map (λ (n : ObjectNode). n.key) nodes) → Rises nodes
rises_from [] p = tt
rises_from (n ∷ ns) p = (first, rises_from ns (λ i j d lt within. p (suc i) (suc j) d (omega (arith, lt)) (omega (arith, within)))) where
  keys : List Key
  keys = map (λ (x : ObjectNode). x.key) ns

  first : (m : ObjectNode) → In m ns → key_below n.key m.key ≡ true
  first m i =
      let c = contains_in keys m.key (in_map-back (λ (x : ObjectNode). x.key) ns m i) in
      let lt = c.1 in
      subst (λ (k : Key). key_below n.key k ≡ true) c.2 (p 0 (suc c.0) m.key (omega arith) (omega (arith, lt)))

pub rises_to : (nodes : List ObjectNode) → Rises nodes
    → AllPairs (λ (a b : ObjectNode). IsTrue (key_below a.key b.key)) nodes
rises_to [] r = λ i j d lt within. absurd (let f : ⊥ = omega (arith, within) in f)
rises_to (n ∷ ns) r =
    AllPairs-cons (λ (a b : ObjectNode). IsTrue (key_below a.key b.key)) n ns
    (all_in (λ (m : ObjectNode). IsTrue (key_below n.key m.key)) ns r.0) (rises_to ns r.1)

pub rises_filter : (test : ObjectNode → Bool) (nodes : List ObjectNode) → Rises nodes → Rises (filter test nodes)
rises_filter test [] r = tt
rises_filter test (n ∷ ns) r =
    choice Rises (test n) (n ∷ filter test ns) (filter test ns)
    (λ t. (λ m i. r.0 m (in_filter test m ns i).0, rises_filter test ns r.1)) (λ f. rises_filter test ns r.1)

-- not below itself
itself : (a b : ObjectNode) → a ≡ b → key_below a.key b.key ≡ true → ⊥
itself a b same below = key-irrefl a.key (subst (λ (n : ObjectNode). key_below a.key n.key ≡ true) (sym same) below)

-- not below one another
either_way : (a b : ObjectNode) → key_below a.key b.key ≡ true → key_below b.key a.key ≡ true → ⊥
either_way a b x y = key-irrefl a.key (key-trans a.key b.key a.key x y)

-- two rising lists with the same nodes are one
pub same_lists : (xs ys : List ObjectNode) → Rises xs → Rises ys → ((n : ObjectNode) → In n xs → In n ys)
    → ((n : ObjectNode) → In n ys → In n xs) → xs ≡ ys
same_lists [] [] r s f g = refl
same_lists [] (y ∷ ys) r s f g = absurd (g y (inl refl))
same_lists (x ∷ xs) [] r s f g = absurd (f x (inl refl))
same_lists (x ∷ xs) (y ∷ ys) r s f g =
    ap (λ (n : ObjectNode). n ∷ xs) heads ∙ ap (λ (l : List ObjectNode). y ∷ l)
    (same_lists xs ys r.1 s.1 (λ n i. later n i (f n (inr i))) (λ n i. earlier n i (g n (inr i)))) where
      heads : x ≡ y
      heads = elim (f x (inl refl)) [
        | inl e ↦ sym e
        | inr i ↦ elim (g y (inl refl)) [
          | inl e ↦ e
          | inr j ↦ absurd (either_way x y (r.0 y j) (s.0 x i))
        ]
      ]

      later : (n : ObjectNode) → In n xs → In n (y ∷ ys) → In n ys
      later n i (inl e) = absurd (itself x n (heads ∙ e) (r.0 n i))
      later n i (inr j) = j

      earlier : (n : ObjectNode) → In n ys → In n (x ∷ xs) → In n xs
      earlier n i (inl e) = absurd (itself y n (sym heads ∙ e) (s.0 n i))
      earlier n i (inr j) = j

-- THE NODES BELOW A KEY

abbrev pub is_before : Key → ObjectNode → Bool
is_before key n = key_below n.key key

none_before : (key : Key) (ns : List ObjectNode) → ((m : ObjectNode) → In m ns → key_below key m.key ≡ true)
    → filter (is_before key) ns ≡ []
none_before key [] above = refl
none_before key (n ∷ ns) above =
    if_false (is_before key n) (n ∷ filter (is_before key) ns) (filter (is_before key) ns)
    (by_test (is_before key n ≡ false) (is_before key n)
    (λ t. absurd (key-irrefl key (key-trans key n.key key (above n (inl refl)) t))) (λ f. f))
    ∙ none_before key ns (λ m i. above m (inr i))

self_same : (key : Key) → same_key key key ≡ true
self_same key = and_from _ _ (eq-eqb key.stamp key.stamp refl) (same_id-refl key.id)

not_same : (a b : Key) → key_below a b ≡ true → same_key a b ≡ false
not_same a b below =
    by_test (same_key a b ≡ false) (same_key a b)
    (λ t. absurd (key-irrefl a (subst (λ (k : Key). key_below a k ≡ true) (sym (same_key-is a b t)) below))) (λ f. f)

not_below : (a : Key) → key_below a a ≡ false
not_below a = by_test (key_below a a ≡ false) (key_below a a) (λ t. absurd (key-irrefl a t)) (λ f. f)

-- the node with a key is found, and those before it are those below it
module _ (node : ObjectNode) where
  abbrev own : Key
  own = node.key

  abbrev is_own : ObjectNode → Bool
  is_own m = same_key m.key own

  found : (ns : List ObjectNode) → Rises ns → In node ns → find is_own ns ≡ Some node
  found [] r i = absurd i
  found (n ∷ ns) r (inl e) =
      if_true (is_own n) (Some n) (find is_own ns)
      (subst (λ (m : ObjectNode). same_key m.key own ≡ true) (sym e) (self_same own)) ∙ ap (λ (m : ObjectNode). Some m) e
  found (n ∷ ns) r (inr i) =
      if_false (is_own n) (Some n) (find is_own ns) (not_same n.key own (r.0 node i)) ∙ found ns r.1 i

  before : (ns : List ObjectNode) → Rises ns → In node ns → nodes_before own ns ≡ filter (is_before own) ns
  before [] r i = absurd i
  before (n ∷ ns) r (inl e) =
      let p : ObjectNode → Bool = λ m. not (same_key m.key own) in
      let same : same_key n.key own ≡ true = subst (λ (m : ObjectNode). same_key m.key own ≡ true) (sym e) (self_same own) in
      let stops : nodes_before own (n ∷ ns) ≡ [] =
      take_while-cons p n ns ∙ if_false (p n) (n ∷ take_while p ns) [] (ap not same) in
      let none : filter (is_before own) (n ∷ ns) ≡ [] =
      if_false (is_before own n) (n ∷ filter (is_before own) ns) (filter (is_before own) ns)
      (subst (λ (m : ObjectNode). key_below m.key own ≡ false) (sym e) (not_below own))
      ∙ none_before own ns (λ m i. subst (λ (k : ObjectNode). key_below k.key m.key ≡ true) e (r.0 m i)) in
      stops ∙ sym none
  before (n ∷ ns) r (inr i) =
      let p : ObjectNode → Bool = λ m. not (same_key m.key own) in
      let goes : nodes_before own (n ∷ ns) ≡ n ∷ nodes_before own ns =
      take_while-cons p n ns ∙ if_true (p n) (n ∷ take_while p ns) [] (ap not (not_same n.key own (r.0 node i))) in
      let has : filter (is_before own) (n ∷ ns) ≡ n ∷ filter (is_before own) ns =
      if_true (is_before own n) (n ∷ filter (is_before own) ns) (filter (is_before own) ns) (r.0 node i) in
      goes ∙ (ap (λ (l : List ObjectNode). n ∷ l) (before ns r.1 i) ∙ sym has)

  pub verdict_is : (ns : List ObjectNode) → Rises ns → In node ns
      → verdict_of ns own ≡ form_verdict own (writes_after (filter (is_before own) ns)) (form_of node.text)
  verdict_is ns r i =
      ap (verdict_among ns) (found ns r i)
      ∙ ap (λ (l : List ObjectNode). form_verdict own (writes_after l) (form_of node.text)) (before ns r i)

-- a node that is found
found_in : (test : ObjectNode → Bool) (ns : List ObjectNode) (n : ObjectNode) → find test ns ≡ Some n
    → In n ns × (test n ≡ true)
found_in test [] n e = absurd (let f : ⊥ = cc in f)
found_in test (m ∷ ns) n e =
    choice (λ (o : Option ObjectNode). o ≡ Some n → In n (m ∷ ns) × (test n ≡ true)) (test m) (Some m) (find test ns)
    (λ t h. let same : m ≡ n = cc (h) in (inl same, subst (λ (x : ObjectNode). test x ≡ true) same t))
    (λ f h. let r = found_in test ns n h in (inr r.0, r.1)) e

-- where something became of a transaction among nodes, its node is one of them
pub stands_among : (ns : List ObjectNode) (key : Key) (commits : Bool) → outcome (verdict_of ns key) ≡ Some commits
    → (n : ObjectNode) × In n ns × (n.key ≡ key)
stands_among ns key commits e = by (find (λ (n : ObjectNode). same_key n.key key) ns) refl where
  by : (o : Option ObjectNode) → find (λ (n : ObjectNode). same_key n.key key) ns ≡ o
      → (n : ObjectNode) × In n ns × (n.key ≡ key)
  by None is =
      let none : outcome (verdict_of ns key) ≡ None = ap (λ (o : Option ObjectNode). outcome (verdict_among ns o)) is in
      absurd (let f : None ≡ Some commits = sym none ∙ e in let g : ⊥ = cc (f) in g)
  by (Some n) is = let r = found_in (λ (m : ObjectNode). same_key m.key key) ns n is in (n, r.0, same_key-is n.key key r.1)

-- Two rising lists that have the same nodes up to a transaction's say the same of it.
pub same_verdict : (xs ys : List ObjectNode) (key : Key) (node : ObjectNode) → Rises xs → Rises ys → In node xs → In node ys
    → node.key ≡ key
    → ((n : ObjectNode) → In n xs → key_below n.key key ≡ true → In n ys)
    → ((n : ObjectNode) → In n ys → key_below n.key key ≡ true → In n xs) → verdict_of xs key ≡ verdict_of ys key
same_verdict xs ys key node r s i j is f g =
    subst (λ (k : Key). verdict_of xs k ≡ verdict_of ys k) is
    (verdict_is node xs r i
    ∙ (ap (λ (l : List ObjectNode). form_verdict node.key (writes_after l) (form_of node.text)) same
    ∙ sym (verdict_is node ys s j))) where
      into : (ms bs : List ObjectNode) → ((n : ObjectNode) → In n ms → key_below n.key key ≡ true → In n bs)
          → (n : ObjectNode) → In n (filter (is_before node.key) ms) → In n (filter (is_before node.key) bs)
      into ms bs h n k =
          let t = in_filter (is_before node.key) n ms k in
          in_filter-back (is_before node.key) n bs
          (h n t.0 (subst (λ (x : Key). key_below n.key x ≡ true) is t.1)) t.1

      same : filter (is_before node.key) xs ≡ filter (is_before node.key) ys
      same = same_lists (filter (is_before node.key) xs) (filter (is_before node.key) ys)
          (rises_filter (is_before node.key) xs r) (rises_filter (is_before node.key) ys s) (into xs ys f) (into ys xs g)
