-- What objects answer rests on the keys of nodes and on what they read of their texts, and of colours on those that a log may
-- have.
use Rattle.std.proofs.Common.{◌≡◌, ◌∙◌, refl, ap, sym, subst, Bool, true, false, cond, not, ℕ, ◌<◌, List, [], ◌∷◌, Option, Some, None, arith}
use Rattle.std.specs.Prelude.{slice_get}
use Rattle.std.specs.List.{AllZip, cons_option, filter_map, find, fold, range_with_len}
use Rattle.std.proofs.lemmas.List.Sums.{take_while-cons}
use Rattle.log_node.specs.declared.ids.Colours.{Colours}
use Rattle.log_node.specs.declared.ids.Key.{Key}
use Rattle.log_node.specs.declared.limits.TheConstants.{MAX_COLOURS}
use Rattle.log_node.specs.Order.{same_key}
use Rattle.log_node.specs.Sets.{has, members}
use Rattle.object_form.specs.Readings.{form_of}
use Rattle.object_fold.specs.Folds.{told_among, told_of}
use Rattle.object_fold.specs.Maps.{Value, value_after, value_among, value_with, values_among}
use Rattle.object_fold.specs.Nodes.{ObjectNode, nodes_before, nodes_of, shard_of}
use Rattle.object_fold.specs.Queues.{front_after, queue_with}
use Rattle.object_fold.specs.Transactions.{Write, form_verdict, verdict_among, verdict_of, writes_after, writes_with}
use Rattle.tree_fold.specs.Readings.{change_of}
use Rattle.tree_fold.specs.Trees.{Tree, telling, told_of_change, tree_after, tree_with}
use Rattle.part_fold.specs.declared.decision.Decision.{Decision}
use Rattle.part_fold.specs.Decisions.{decision_of}
use Rattle.part_fold.specs.Parts.{Part, decisions, known_after, known_of, transaction_by, transactions}
use Rattle.col_core.proofs.CallerLemmas.{In, in_filter, in_filter-back, range_has}

-- Nodes of one key that objects read alike, of colours of those that a log may have; where decisions are known to be the same,
-- they have one text.
pub record AreAlike (Decided : Type 0) (x y : ObjectNode) : Type 0 where
  pub key : x.key ≡ y.key
  pub form : form_of x.text ≡ form_of y.text
  pub change : change_of x.text ≡ change_of y.text
  pub text : Decided → x.text ≡ y.text
  pub colours : members x.colours ≡ members y.colours

-- LISTS OF NODES BESIDE ONE ANOTHER

-- the node has the key
abbrev its : Key → ObjectNode → Bool
its key node = same_key node.key key

module _ (D : Type 0) where
  abbrev Alike : List ObjectNode → List ObjectNode → Type 0
  Alike xs ys = AllZip (AreAlike D) xs ys

  fold_alike : {A : Type 0} (step : A → ObjectNode → A)
      → ((acc : A) (x y : ObjectNode) → AreAlike D x y → step acc x ≡ step acc y)
      → (xs ys : List ObjectNode) → Alike xs ys → (acc : A) → fold step acc xs ≡ fold step acc ys
  fold_alike step same [] [] r acc = refl
  fold_alike step same [] (y ∷ ys) r acc = absurd r
  fold_alike step same (x ∷ xs) [] r acc = absurd r
  fold_alike {A} step same (x ∷ xs) (y ∷ ys) r acc =
      fold_alike step same xs ys r.1 (step acc x) ∙ ap (λ (s : A). fold step s ys) (same acc x y r.0)

  filter_map_alike : {A : Type 0} (f : ObjectNode → Option A)
      → ((x y : ObjectNode) → AreAlike D x y → f x ≡ f y) → (xs ys : List ObjectNode) → Alike xs ys
      → filter_map f xs ≡ filter_map f ys
  filter_map_alike f same [] [] r = refl
  filter_map_alike f same [] (y ∷ ys) r = absurd r
  filter_map_alike f same (x ∷ xs) [] r = absurd r
  filter_map_alike {A} f same (x ∷ xs) (y ∷ ys) r =
      ap (λ (o : Option A). cons_option o (filter_map f xs)) (same x y r.0)
      ∙ ap (λ (l : List A). cons_option (f y) l) (filter_map_alike f same xs ys r.1)

  -- the nodes with a key, or none
  abbrev FoundAlike : Option ObjectNode → Option ObjectNode → Type 0
  FoundAlike None None = Unit {0}
  FoundAlike (Some x) (Some y) = AreAlike D x y
  FoundAlike _ _ = ⊥

  find_alike : (key : Key) (xs ys : List ObjectNode) → Alike xs ys → FoundAlike (find (its key) xs) (find (its key) ys)
  find_alike key [] [] r = tt
  find_alike key [] (y ∷ ys) r = absurd r
  find_alike key (x ∷ xs) [] r = absurd r
  find_alike key (x ∷ xs) (y ∷ ys) r =
      by (its key x) (its key y) (ap (λ (k : Key). same_key k key) r.0.key) (find_alike key xs ys r.1) where
        by : (a b : Bool) → a ≡ b → FoundAlike (find (its key) xs) (find (its key) ys)
            → FoundAlike (cond a (Some x) (find (its key) xs)) (cond b (Some y) (find (its key) ys))
        by true true e more = r.0
        by true false e more = absurd (let f : ⊥ = cc (e) in f)
        by false true e more = absurd (let f : ⊥ = cc (e) in f)
        by false false e more = more

  before_alike : (key : Key) (xs ys : List ObjectNode) → Alike xs ys → Alike (nodes_before key xs) (nodes_before key ys)
  before_alike key [] [] r = tt
  before_alike key [] (y ∷ ys) r = absurd r
  before_alike key (x ∷ xs) [] r = absurd r
  before_alike key (x ∷ xs) (y ∷ ys) r =
      subst (λ (l : List ObjectNode). Alike l (nodes_before key (y ∷ ys))) (sym (take_while-cons other x xs))
      (subst (Alike (cond (other x) (x ∷ nodes_before key xs) [])) (sym (take_while-cons other y ys))
      (by (other x) (other y) (ap (λ (k : Key). not (same_key k key)) r.0.key) (before_alike key xs ys r.1))) where
        other : ObjectNode → Bool
        other node = not (same_key node.key key)

        by : (a b : Bool) → a ≡ b → Alike (nodes_before key xs) (nodes_before key ys)
            → Alike (cond a (x ∷ nodes_before key xs) []) (cond b (y ∷ nodes_before key ys) [])
        by true true e more = (r.0, more)
        by true false e more = absurd (let f : ⊥ = cc (e) in f)
        by false true e more = absurd (let f : ⊥ = cc (e) in f)
        by false false e more = tt

  -- WHAT OBJECTS READ

  module _ (xs ys : List ObjectNode) (alike : Alike xs ys) where
    pub writes_same : writes_after xs ≡ writes_after ys
    writes_same = fold_alike (λ (writes : List Write) (node : ObjectNode). writes_with node.key writes (form_of node.text))
        (λ acc x y r. ap (λ (k : Key). writes_with k acc (form_of x.text)) r.key ∙ ap (writes_with y.key acc) r.form) xs ys alike []

    pub tree_same : tree_after xs ≡ tree_after ys
    tree_same = fold_alike (λ (tree : Tree) (node : ObjectNode). tree_with tree (change_of node.text))
        (λ acc x y r. ap (tree_with acc) r.change) xs ys alike []

    pub front_same : front_after xs ≡ front_after ys
    front_same = ap (λ (l : List (List ℕ)). slice_get l 0)
        (fold_alike (λ (waiting : List (List ℕ)) (node : ObjectNode). queue_with waiting (form_of node.text))
        (λ acc x y r. ap (queue_with acc) r.form) xs ys alike [])

    pub value_same : (key : List ℕ) → value_after key xs ≡ value_after key ys
    value_same key = fold_alike (λ (value : Value) (node : ObjectNode). value_with key value (form_of node.text))
        (λ acc x y r. ap (value_with key acc) r.form) xs ys alike None

    -- what parts know rests on what decisions say
    pub known_same : D → (part : Part) → known_after part xs ≡ known_after part ys
    known_same d part =
        ap (λ (l : List Decision). known_of part l (transactions xs))
        (filter_map_alike (λ (node : ObjectNode). decision_of node.text) (λ x y r. ap decision_of (r.text d)) xs ys alike)
        ∙ ap (known_of part (decisions ys))
        (filter_map_alike (λ (node : ObjectNode). transaction_by node.key (form_of node.text))
        (λ x y r. ap (λ (k : Key). transaction_by k (form_of x.text)) r.key ∙ ap (transaction_by y.key) r.form) xs ys alike)

  module _ (xs ys : List ObjectNode) (alike : Alike xs ys) where
    pub verdict_same : (key : Key) → verdict_of xs key ≡ verdict_of ys key
    verdict_same key = by (find (its key) xs) (find (its key) ys) (find_alike key xs ys alike) where
      by : (p q : Option ObjectNode) → FoundAlike p q → verdict_among xs p ≡ verdict_among ys q
      by None None r = refl
      by None (Some y) r = absurd r
      by (Some x) None r = absurd r
      by (Some x) (Some y) r =
          ap (λ (k : Key). form_verdict k (writes_after (nodes_before k xs)) (form_of x.text)) r.key
          ∙ (ap (form_verdict y.key (writes_after (nodes_before y.key xs))) r.form
          ∙ ap (λ (w : List Write). form_verdict y.key w (form_of y.text))
          (writes_same (nodes_before y.key xs) (nodes_before y.key ys) (before_alike y.key xs ys alike)))

    pub told_same : (key : Key) → told_of telling xs key ≡ told_of telling ys key
    told_same key = by (find (its key) xs) (find (its key) ys) (find_alike key xs ys alike) where
      by : (p q : Option ObjectNode) → FoundAlike p q → told_among telling xs p ≡ told_among telling ys q
      by None None r = refl
      by None (Some y) r = absurd r
      by (Some x) None r = absurd r
      by (Some x) (Some y) r =
          ap (λ (k : Key). told_of_change k.stamp (tree_after (nodes_before k xs)) (change_of x.text)) r.key
          ∙ (ap (told_of_change y.key.stamp (tree_after (nodes_before y.key xs))) r.change
          ∙ ap (λ (t : Tree). told_of_change y.key.stamp t (change_of y.text))
          (tree_same (nodes_before y.key xs) (nodes_before y.key ys) (before_alike y.key xs ys alike)))

-- COLOURS

is_true : (a b : Bool) → (a ≡ true → b ≡ true) → (b ≡ true → a ≡ true) → a ≡ b
is_true true b f g = sym (f refl)
is_true false true f g = g refl
is_true false false f g = refl

range_low : (c : ℕ) → c < MAX_COLOURS → In c (range_with_len 0 MAX_COLOURS)
range_low c lt = range_has 0 MAX_COLOURS c (omega arith) (omega (arith, lt))

-- sets with the same members have the same colours of those that a log may have
has_same : (x y : Colours) → members x ≡ members y → (c : ℕ) → c < MAX_COLOURS → has x c ≡ has y c
has_same x y e c lt = is_true (has x c) (has y c)
    (λ t. (in_filter (has y) c (range_with_len 0 MAX_COLOURS)
    (subst (In c) e (in_filter-back (has x) c (range_with_len 0 MAX_COLOURS) (range_low c lt) t))).1)
    (λ t. (in_filter (has x) c (range_with_len 0 MAX_COLOURS)
    (subst (In c) (sym e) (in_filter-back (has y) c (range_with_len 0 MAX_COLOURS) (range_low c lt) t))).1)

-- nodes of a colour are alike
of_colour : (D : Type 0) (c : ℕ) → c < MAX_COLOURS → (xs ys : List ObjectNode) → AllZip (AreAlike D) xs ys
    → AllZip (AreAlike D) (nodes_of c xs) (nodes_of c ys)
of_colour D c lt [] [] r = tt
of_colour D c lt [] (y ∷ ys) r = absurd r
of_colour D c lt (x ∷ xs) [] r = absurd r
of_colour D c lt (x ∷ xs) (y ∷ ys) r =
    by (has x.colours c) (has y.colours c) (has_same x.colours y.colours r.0.colours c lt) (of_colour D c lt xs ys r.1) where
      by : (a b : Bool) → a ≡ b → AllZip (AreAlike D) (nodes_of c xs) (nodes_of c ys)
          → AllZip (AreAlike D) (cond a (x ∷ nodes_of c xs) (nodes_of c xs)) (cond b (y ∷ nodes_of c ys) (nodes_of c ys))
      by true true e more = (r.0, more)
      by true false e more = absurd (let f : ⊥ = cc (e) in f)
      by false true e more = absurd (let f : ⊥ = cc (e) in f)
      by false false e more = more

pub among_same : (D : Type 0) (colours : List ℕ) → ((key : List ℕ) → shard_of colours key < MAX_COLOURS)
    → (xs ys : List ObjectNode) → AllZip (AreAlike D) xs ys → (keys : List (List ℕ)) → values_among colours xs keys ≡ values_among colours ys keys
among_same D colours low xs ys alike [] = refl
among_same D colours low xs ys alike (key ∷ keys) =
    ap (λ (v : Value). v ∷ values_among colours xs keys)
    (value_same D (nodes_of (shard_of colours key) xs) (nodes_of (shard_of colours key) ys)
    (of_colour D (shard_of colours key) (low key) xs ys alike) key)
    ∙ ap (λ (l : List Value). value_among colours ys key ∷ l) (among_same D colours low xs ys alike keys)
