-- Folds that go on, and what a node is told among nodes.
use Rattle.std.proofs.Common.{◌≡◌, ℕ, suc, ◌+◌, ◌<◌, ◌≤◌, Bool, true, false, cond, List, [], ◌∷◌, ◌++◌, length, take, drop, get_or, Option, Some, None, refl, ap, sym, subst, ◌∙◌, arith, append-nil, append_assoc, take-append-drop}
use Rattle.std.specs.Prelude.{not}
use Rattle.std.specs.List.{find, prefix_len}
use Rattle.std.proofs.lemmas.List.{map-append, take_all, take_more, at_drop_more}
use Rattle.std.proofs.lemmas.List.Sums.{fold-append}
use Rattle.log_node.specs.declared.ids.Key.{Key}
use Rattle.log_node.specs.Order.{same_key}
use Rattle.log_node.specs.Seen.{PlacedNode}
use Rattle.log_node.proofs.CallerLemmas.{same_key-is}
use Rattle.object_fold.specs.Nodes.{ObjectNode, nodes_before, object_node, object_nodes}
use Rattle.object_fold.specs.declared.kept_fold.KeptFold.{KeptFold}
use Rattle.object_fold.specs.Folds.{FeedsAll, FeedsFirst, IsAbsent, last_after, told_among, told_of}

-- FOLDS THAT GO ON

module _ {F : Type 0} (Holds : F → List ObjectNode → Type 0) where
  -- some nodes and then others
  pub feeds_then : (a b c : KeptFold F) (xs ys : List PlacedNode) → FeedsAll Holds a b xs → FeedsAll Holds b c ys → FeedsAll Holds a c (xs ++ ys)
  feeds_then a b c xs ys f g = (
    g.0
        ∙ (ap (λ (k : Option Key). last_after k ys) f.0
        ∙ sym (fold-append (λ (k : Option Key) (item : PlacedNode). Some item.head.key) a.last xs ys)),
    λ nodes is.
        subst (Holds c.state)
        (append_assoc nodes (object_nodes xs) (object_nodes ys)
        ∙ ap (λ (l : List ObjectNode). nodes ++ l) (sym (map-append object_node xs ys)))
        (g.1 (nodes ++ object_nodes xs) (f.1 nodes is)),
  )

  -- one node more
  pub feeds_more : (a b c : KeptFold F) (items : List PlacedNode) (n : ℕ) (item d : PlacedNode) → n < length items
      → get_or items n d ≡ item → FeedsAll Holds a b (take n items) → FeedsAll Holds b c (item ∷ []) → FeedsAll Holds a c (take (n + 1) items)
  feeds_more a b c items n item d lt is f g =
      subst (FeedsAll Holds a c)
      (ap (λ (x : PlacedNode). take n items ++ x ∷ []) (sym is) ∙ sym (take_more items n d lt))
      (feeds_then a b c (take n items) (item ∷ []) f g)

  -- and where the next one found no memory
  pub feeds_same : (a b c : KeptFold F) (items : List PlacedNode) (n : ℕ) → n ≤ length items → FeedsAll Holds a b (take n items)
      → FeedsAll Holds b c [] → FeedsFirst Holds a c items
  feeds_same a b c items n le f g =
      (n, le, subst (FeedsAll Holds a c) (append-nil (take n items)) (feeds_then a b c (take n items) [] f g))

-- WHAT A NODE IS TOLD

pub absent_more : (own : Key) (xs ys : List ObjectNode) → IsAbsent own xs → IsAbsent own ys → IsAbsent own (xs ++ ys)
absent_more own [] ys a b = b
absent_more own (x ∷ xs) ys a b = (a.0, absent_more own xs ys a.1 b)

pub absent_next : (own : Key) (items : List PlacedNode) (n : ℕ) (item d : PlacedNode) → n < length items
    → get_or items n d ≡ item → IsAbsent own (object_nodes (take n items)) → same_key item.head.key own ≡ false
    → IsAbsent own (object_nodes (take (n + 1) items))
absent_next own items n item d lt is a other =
    subst (IsAbsent own)
    (sym (map-append object_node (take n items) (item ∷ []))
    ∙ ap object_nodes (ap (λ (x : PlacedNode). take n items ++ x ∷ []) (sym is) ∙ sym (take_more items n d lt)))
    (absent_more own (object_nodes (take n items)) (object_node item ∷ []) a (other, tt))

pub found_cond : {A : Type 0} (b : Bool) (x y : A) → b ≡ true → cond b x y ≡ x
found_cond true x y e = refl
found_cond false x y e = absurd (let f : ⊥ = cc in f)

pub passed_cond : {A : Type 0} (b : Bool) (x y : A) → b ≡ false → cond b x y ≡ y
passed_cond true x y e = absurd (let f : ⊥ = cc in f)
passed_cond false x y e = refl

module _ (own : Key) where
  abbrev is_own : ObjectNode → Bool
  is_own node = same_key node.key own

  abbrev others : List ObjectNode → ℕ
  others nodes = prefix_len (λ node. not (same_key node.key own)) nodes

  pub none_found : (nodes : List ObjectNode) → IsAbsent own nodes → find is_own nodes ≡ None
  none_found [] a = refl
  none_found (n ∷ nodes) a = passed_cond (same_key n.key own) (Some n) (find is_own nodes) a.0 ∙ none_found nodes a.1

  pub found_there : (before : List ObjectNode) (node : ObjectNode) (behind : List ObjectNode) → IsAbsent own before
      → same_key node.key own ≡ true → find is_own (before ++ node ∷ behind) ≡ Some node
  found_there [] node behind a same = found_cond (same_key node.key own) (Some node) (find is_own behind) same
  found_there (n ∷ before) node behind a same =
      passed_cond (same_key n.key own) (Some n) (find is_own (before ++ node ∷ behind)) a.0
      ∙ found_there before node behind a.1 same

  before_there : (before : List ObjectNode) (node : ObjectNode) (behind : List ObjectNode) → IsAbsent own before
      → same_key node.key own ≡ true → nodes_before own (before ++ node ∷ behind) ≡ before
  before_there [] node behind a same =
      ap (λ (n : ℕ). take n (node ∷ behind))
      (passed_cond (not (same_key node.key own)) (1 + others behind) 0 (ap not same))
  before_there (n ∷ before) node behind a same =
      let count = others (before ++ node ∷ behind) in
      let one : 1 + count ≡ suc count = omega arith in
      ap (λ (m : ℕ). take m ((n ∷ before) ++ node ∷ behind))
      (found_cond (not (same_key n.key own)) (1 + count) 0 (ap not a.0) ∙ one)
      ∙ ap (λ (l : List ObjectNode). n ∷ l) (before_there before node behind a.1 same)

  module _ {T : Type 0} (told : List ObjectNode → ObjectNode → Option T) where
    -- no node with the key, and nothing is told
    pub none_told : (nodes : List ObjectNode) → IsAbsent own nodes → told_of told nodes own ≡ None
    none_told nodes a = ap (told_among told nodes) (none_found nodes a)

    -- the first node with the key is told what it is told behind those before it
    pub told_there : (before : List ObjectNode) (node : ObjectNode) (behind : List ObjectNode) → IsAbsent own before
        → same_key node.key own ≡ true → told_of told (before ++ node ∷ behind) own ≡ told before node
    told_there before node behind a same =
        ap (told_among told (before ++ node ∷ behind)) (found_there before node behind a same)
        ∙ ap (λ (ns : List ObjectNode). told ns node)
        (ap (λ (k : Key). nodes_before k (before ++ node ∷ behind)) (same_key-is node.key own same)
        ∙ before_there before node behind a same)

    -- and so is an item, which is the first of its key behind these nodes
    pub told_at : (nodes : List ObjectNode) (items : List PlacedNode) (n : ℕ) (item d : PlacedNode) → n < length items
        → get_or items n d ≡ item → IsAbsent own nodes → IsAbsent own (object_nodes (take n items))
        → same_key item.head.key own ≡ true
        → told_of told (nodes ++ object_nodes items) own ≡ told (nodes ++ object_nodes (take n items)) (object_node item)
    told_at nodes items n item d lt is a b same =
        ap (λ (l : List ObjectNode). told_of told l own) apart
        ∙ told_there (nodes ++ object_nodes (take n items)) (object_node item) (object_nodes (drop (n + 1) items))
        (absent_more own nodes (object_nodes (take n items)) a b) same where
          whole : items ≡ take n items ++ item ∷ drop (n + 1) items
          whole =
              sym (take-append-drop n items)
              ∙ (at_drop_more (λ (l : List PlacedNode). take n items ++ l) items n d lt
              ∙ ap (λ (x : PlacedNode). take n items ++ x ∷ drop (n + 1) items) is)

          apart : nodes ++ object_nodes items
              ≡ (nodes ++ object_nodes (take n items)) ++ object_node item ∷ object_nodes (drop (n + 1) items)
          apart =
              ap (λ (l : List PlacedNode). nodes ++ object_nodes l) whole
              ∙ (ap (λ (l : List ObjectNode). nodes ++ l) (map-append object_node (take n items) (item ∷ drop (n + 1) items))
              ∙ sym (append_assoc nodes (object_nodes (take n items))
              (object_node item ∷ object_nodes (drop (n + 1) items))))
