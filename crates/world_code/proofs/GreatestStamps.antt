-- The greatest stamp of the nodes that a play adds.
use Rattle.std.proofs.Common.{◌≡◌, ◌≢◌, ℕ, zero, suc, ◌+◌, ◌<◌, ◌≤◌, List, [], ◌∷◌, ◌++◌, length, take, drop, map}
use Rattle.std.proofs.Common.{get_or, refl, ap, sym, ◌∙◌, arith}
use Rattle.std.specs.Prelude.{◌-◌, ◌==◌, max, min}
use Rattle.std.proofs.lemmas.List.{take-map, drop-map, take_more}
use Rattle.std.proofs.lemmas.Bool.{cond-true, eq-eqb}
use Rattle.log_node.specs.declared.ids.Key.{Key}
use Rattle.log_node.specs.declared.ids.Counts.{Counts}
use Rattle.log_node.specs.declared.node.Head.{Head}
use Rattle.log_node.specs.Seen.{PlacedNode}
use Rattle.log_node.specs.Vectors.{at, IsWithin}
use Rattle.log_node.specs.Outcomes.{greatest}
use Rattle.col_core.specs.declared.Entry.{Entry}
use Rattle.col_core.specs.History.{line}
use Rattle.log_node.specs.Reach.{Chains}
use Rattle.col_core.specs.Cuts.{needs_of}
use Rattle.col_core.specs.PlayOrder.{greatest_between, nodes_between}
use Rattle.col_core.proofs.CallerLemmas.{within-at}
use Rattle.column.specs.Columns.{ColumnState, history_of, chains_of, cut_of, base_of, copy_of}
use Rattle.column.specs.Inside.{IsColumn}
use Rattle.world_laws.proofs.CallerLemmas.{entries_dated}

greatest-append : (xs ys : List ℕ) → greatest (xs ++ ys) ≡ max (greatest xs) (greatest ys)
greatest-append [] ys = let n = greatest ys in let e : n ≡ max 0 n = omega arith in e
greatest-append (x ∷ xs) ys =
    let r = greatest-append xs ys in
    three x (greatest (xs ++ ys)) (greatest xs) (greatest ys) r where
      three : (a n b c : ℕ) → n ≡ max b c → max a n ≡ max (max a b) c
      three a n b c e = omega (arith, e)

map-append : {A B : Type 0} (f : A → B) (xs ys : List A) → map f (xs ++ ys) ≡ map f xs ++ map f ys
map-append f [] ys = refl
map-append {A} {B} f (x ∷ xs) ys = ap (λ (l : List B). f x ∷ l) (map-append f xs ys)

-- a loop over a part of a list
pub greatest_more : {A : Type 0} (f : A → ℕ) (xs : List A) (i most : ℕ) (d : A) → i < length xs
    → most ≡ greatest (map f (take i xs)) → max (f (get_or xs i d)) most ≡ greatest (map f (take (i + 1) xs))
greatest_more {A} f xs i most d lt is =
    let e = ap (λ (l : List A). greatest (map f l)) (take_more xs i d lt)
    ∙ (ap greatest (map-append f (take i xs) (get_or xs i d ∷ []))
    ∙ greatest-append (map f (take i xs)) (f (get_or xs i d) ∷ [])) in
    last (f (get_or xs i d)) most (greatest (map f (take i xs))) (greatest (map f (take (i + 1) xs))) is e where
      last : (x m n g : ℕ) → m ≡ n → g ≡ max n (max x 0) → max x m ≡ g
      last x m n g p q = omega (arith, p, q)

-- a part whose bounds are held to the list
pub clipped : {A : Type 0} (a b s e : ℕ) (xs : List A) → e ≡ min b (length xs) → s ≡ min a e
    → take (e - s) (drop s xs) ≡ drop a (take b xs)
clipped {A} a b s e [] is_e is_s =
    ap (λ (n : ℕ). take (e - s) (drop n [])) (let z : s ≡ 0 = omega (arith, is_e, is_s) in z)
    ∙ (ap (λ (n : ℕ). take n []) (let z : e - s ≡ 0 = omega (arith, is_e, is_s) in z)
    ∙ sym (nothing a b)) where
      none : (n : ℕ) → ◌≡◌ {A = List A} (take n []) []
      none zero = refl
      none (suc n) = refl

      nothing : (n m : ℕ) → ◌≡◌ {A = List A} (drop n (take m [])) []
      nothing zero m = none m
      nothing (suc n) m = ap (drop (suc n)) (none m)
clipped {A} a zero s e (x ∷ xs) is_e is_s =
    ap (λ (n : ℕ). take n (drop s (x ∷ xs))) (let z : e - s ≡ 0 = omega (arith, is_e) in z) ∙ sym (nothing a) where
      nothing : (n : ℕ) → ◌≡◌ {A = List A} (drop n []) []
      nothing zero = refl
      nothing (suc n) = refl
clipped {A} zero (suc b) s e (x ∷ xs) is_e is_s =
    ap (λ (n : ℕ). take (e - n) (drop n (x ∷ xs))) (let z : s ≡ 0 = omega (arith, is_s) in z)
    ∙ (ap (λ (n : ℕ). take n (x ∷ xs)) (let z : e - 0 ≡ suc (min b (length xs)) = omega (arith, is_e) in z)
    ∙ ap (λ (l : List A). x ∷ l) (least b xs)) where
      least : (n : ℕ) (ys : List A) → take (min n (length ys)) ys ≡ take n ys
      least n [] = none (min n 0) ∙ sym (none n) where
        none : (k : ℕ) → ◌≡◌ {A = List A} (take k []) []
        none zero = refl
        none (suc k) = refl
      least zero (y ∷ ys) = ap (λ (k : ℕ). take k (y ∷ ys)) (let z : min 0 (suc (length ys)) ≡ 0 = omega arith in z)
      least (suc n) (y ∷ ys) =
          ap (λ (k : ℕ). take k (y ∷ ys))
          (let z : min (suc n) (suc (length ys)) ≡ suc (min n (length ys)) = omega arith in z)
          ∙ ap (λ (l : List A). y ∷ l) (least n ys)
clipped {A} (suc a) (suc b) s e (x ∷ xs) is_e is_s =
    let e1 = min b (length xs) in
    let s1 = min a e1 in
    ap (λ (n : ℕ). take (e - n) (drop n (x ∷ xs))) (let z : s ≡ suc s1 = omega (arith, is_e, is_s) in z)
    ∙ (ap (λ (n : ℕ). take n (drop s1 xs)) (let z : e - suc s1 ≡ e1 - s1 = omega (arith, is_e) in z)
    ∙ clipped a b s1 e1 xs refl refl)

-- a part of what is behind a number
pub behind : {A : Type 0} (b p c : ℕ) (xs : List A) → b ≤ p → drop (p - b) (take (c - b) (drop b xs))
    ≡ drop p (take c xs)
behind zero p c xs le =
    ap (λ (n : ℕ). drop n (take (c - 0) xs)) (let e : p - 0 ≡ p = omega arith in e)
    ∙ ap (λ (n : ℕ). drop p (take n xs)) (let e : c - 0 ≡ c = omega arith in e)
behind {A} (suc b) p c [] le = nothing (p - suc b) (c - suc b) ∙ sym (nothing p c) where
  none : (n : ℕ) → ◌≡◌ {A = List A} (take n []) []
  none zero = refl
  none (suc n) = refl

  nothing : (n m : ℕ) → ◌≡◌ {A = List A} (drop n (take m [])) []
  nothing zero m = none m
  nothing (suc n) m = ap (drop (suc n)) (none m)
behind (suc b) zero c (x ∷ xs) le = absurd (let f : ⊥ = omega (arith, le) in f)
behind {A} (suc b) (suc p) zero (x ∷ xs) le =
    ap (λ (n : ℕ). drop (suc p - suc b) (take n (drop b xs))) (let e : 0 - suc b ≡ 0 = omega arith in e)
    ∙ nothing (suc p - suc b) where
      nothing : (n : ℕ) → ◌≡◌ {A = List A} (drop n []) []
      nothing zero = refl
      nothing (suc n) = refl
behind (suc b) (suc p) (suc c) (x ∷ xs) le =
    ap (λ (n : ℕ). drop n (take (suc c - suc b) (drop b xs))) (let e : suc p - suc b ≡ p - b = omega arith in e)
    ∙ (ap (λ (n : ℕ). drop (p - b) (take n (drop b xs))) (let e : suc c - suc b ≡ c - b = omega arith in e)
    ∙ behind b p c xs (omega (arith, le)))

map-map : {A B C : Type 0} (f : B → C) (g : A → B) (xs : List A) → map f (map g xs) ≡ map (λ x. f (g x)) xs
map-map f g [] = refl
map-map {A} {B} {C} f g (x ∷ xs) = ap (λ (l : List C). f (g x) ∷ l) (map-map f g xs)

abbrev stamp_of : Head → ℕ
stamp_of h = h.key.stamp

-- Columns

module _ (column : ColumnState) (k : IsColumn column) (played : Counts) where
  abbrev stamps_in : ℕ → ℕ
  stamps_in region = greatest (map stamp_of (nodes_between (chains_of column) played (cut_of column) region))

  own_heads : chains_of column column.region
      ≡ map (λ (key : Key). let h : Head = record { key = key; needs = needs_of (history_of column) key.id } in h)
      (line column.journal)
  own_heads =
      cond-true (column.region == column.region) _ _ (eq-eqb column.region column.region refl)
      ∙ ap (λ (es : List Entry).
      map (λ (key : Key). let h : Head = record { key = key; needs = needs_of (history_of column) key.id } in h)
      (line es))
      (entries_dated column.region column.journal)

  pub own_stamps : (keys : List Key) (region : ℕ) → keys ≡ line column.journal → region ≡ column.region
      → greatest (map (λ (key : Key). key.stamp) (drop (at played region) (take (at (cut_of column) region) keys)))
      ≡ stamps_in region
  own_stamps keys region keys_are is =
      let a = at played region in
      let b = at (cut_of column) region in
      let head = λ (key : Key). let h : Head = record { key = key; needs = needs_of (history_of column) key.id } in h in
      ap greatest
      (sym (map-map stamp_of head (drop a (take b keys)))
      ∙ ap (map stamp_of)
      (sym (drop-map head a (take b keys))
      ∙ (ap (drop a) (sym (take-map head b keys))
      ∙ ap (λ (hs : List Head). drop a (take b hs))
      (ap (map head) keys_are ∙ (sym own_heads ∙ ap (chains_of column) (sym is))))))

  pub other_stamps : (items : List PlacedNode) (region base : ℕ) → items ≡ copy_of column region → region < 4
      → region ≢ column.region → base ≡ at (base_of column) region → IsWithin (base_of column) played
      → greatest (map (λ (i : PlacedNode). i.head.key.stamp)
      (drop (at played region - base) (take (at (cut_of column) region - base) items)))
      ≡ stamps_in region
  other_stamps items region base items_are lt ne base_is within =
      let a = at played region - base in
      let b = at (cut_of column) region - base in
      let head = λ (i : PlacedNode). i.head in
      let below = within-at (base_of column) played within region lt in
      ap greatest
      (sym (map-map stamp_of head (drop a (take b items)))
      ∙ ap (map stamp_of)
      (sym (drop-map head a (take b items))
      ∙ (ap (drop a) (sym (take-map head b items))
      ∙ (ap (λ (hs : List Head). drop a (take b hs))
      (ap (map head) items_are
      ∙ (k.copies.heads region lt ne ∙ ap (λ (n : ℕ). drop n (chains_of column region)) (sym base_is)))
      ∙ behind base (at played region) (at (cut_of column) region) (chains_of column region)
      (omega (arith, below, base_is))))))

-- all four regions
pub between_all : (chains : Chains) (from to : Counts) (a b c d : ℕ)
    → a ≡ greatest (map stamp_of (nodes_between chains from to 0))
    → b ≡ greatest (map stamp_of (nodes_between chains from to 1))
    → c ≡ greatest (map stamp_of (nodes_between chains from to 2))
    → d ≡ greatest (map stamp_of (nodes_between chains from to 3))
    → max (max (max a b) c) d ≡ greatest_between chains from to
between_all chains from to a b c d p q r s =
    let f = nodes_between chains from to in
    let e3 = joined (f 3) [] in
    let e2 = joined (f 2) (f 3 ++ []) in
    let e1 = joined (f 1) (f 2 ++ (f 3 ++ [])) in
    let e0 = joined (f 0) (f 1 ++ (f 2 ++ (f 3 ++ []))) in
    four a b c d _ _ _ _ _ _ _ _ p q r s e0 e1 e2 e3 where
      joined : (xs ys : List Head) → greatest (map stamp_of (xs ++ ys))
          ≡ max (greatest (map stamp_of xs)) (greatest (map stamp_of ys))
      joined xs ys = ap greatest (map-append stamp_of xs ys) ∙ greatest-append (map stamp_of xs) (map stamp_of ys)

      four : (a b c d a' b' c' d' g0 g1 g2 g3 : ℕ) → a ≡ a' → b ≡ b' → c ≡ c' → d ≡ d' → g0 ≡ max a' g1
          → g1 ≡ max b' g2 → g2 ≡ max c' g3 → g3 ≡ max d' 0 → max (max (max a b) c) d ≡ g0
      four a b c d a' b' c' d' g0 g1 g2 g3 p q r s t u v w = omega (arith, p, q, r, s, t, u, v, w)
