-- The computed answer of a causal map is its answer, and the nodes determine it, in whatever order they are listed.
use Rattle.std.proofs.Common.{◌≡◌, ◌⊎◌, inl, inr, ℕ, zero, suc, ◌+◌, ◌<◌, ◌≤◌, Bool, true, false, cond, not, List, [], ◌∷◌, length, get_or, Ordering, Less, Equal, Greater, refl, ap, sym, subst, ◌∙◌, arith, eq-eqb}
use Rattle.std.specs.Prelude.{nat_lt, ◌==◌, ◌&&◌, map, filter, unwrap_or}
use Rattle.std.specs.List.{Contains, list_any, sum_by}
use Rattle.std.specs.List.Sorted.{IsPermutation, IsSorted}
use Rattle.std.specs.Ordering.{is_lt, is_eq, nat_cmp, ordering_reverse}
use Rattle.std.specs.Cmp.Lexicographic.{slice_cmp}
use Rattle.std.specs.Str.{bytes_eq}
use Rattle.std.proofs.lemmas.Bool.{eqb-true, ltb-true, lt-ltb, cases_Bool, or_cases, or_left, or_right, and_parts, and_from, both_ways, not-true, not_from_false, false_from_ne_true}
use Rattle.std.proofs.lemmas.Cmp.{nat_list_cmp_total, tied_itself}
use Rattle.std.proofs.lemmas.List.Sorted.{ranks_by, sorted_far, sum_by-IsPermutation, IsPermutation-sym, IsPermutation-refl, IsPermutation-cons, IsPermutation-trans, Contains-permutation}
use Rattle.std.proofs.lemmas.List.Sums.{sum_by-cons}
use Rattle.std.proofs.lemmas.Map.Text.{is_eq-slice_cmp}
use Rattle.std.proofs.lemmas.Slice.Eq.{bytes_eq-Decides}
use Rattle.log_node.specs.Vectors.{at}
use Rattle.col_core.proofs.CallerLemmas.{by_test, choice, if_true, if_false, In, in_contains, contains_in}
use Rattle.object_fold.specs.Causal.{ChainNode, FollowsAtOnce, FollowsCausally, IsLatestWrite, IsCausalAnswer, written_value}
use Rattle.object_fold.specs.Causal.FollowsCausally.{at_once, through}
use Rattle.script_meaning.specs.CausalGets.{follows_at_once, follows, writes, is_latest_write, put_in_order, sorted_values, causal_values}
use Rattle.log_node.proofs.CallerLemmas.{same_tests as same_test}

-- Following

at_once_is : (node other : ChainNode) → follows_at_once node other ≡ true → FollowsAtOnce node other
at_once_is node other t =
    turn (or_cases ((other.region == node.region) && nat_lt other.position node.position) (nat_lt other.position (at node.needs other.region)) t) where
      turn : (((other.region == node.region) && nat_lt other.position node.position) ≡ true) ⊎ (nat_lt other.position (at node.needs other.region) ≡ true)
          → FollowsAtOnce node other
      turn (inl e) =
          let p = and_parts (other.region == node.region) (nat_lt other.position node.position) e in
          inl (eqb-true other.region node.region p.0, ltb-true other.position node.position p.1)
      turn (inr e) = inr (ltb-true other.position (at node.needs other.region) e)

at_once_test : (node other : ChainNode) → FollowsAtOnce node other → follows_at_once node other ≡ true
at_once_test node other (inl h) =
    or_left _ _ (and_from (other.region == node.region) (nat_lt other.position node.position)
    (eq-eqb other.region node.region h.0) (lt-ltb other.position node.position h.1))
at_once_test node other (inr h) = or_right _ _ (lt-ltb other.position (at node.needs other.region) h)

-- who follows one that follows another follows it too
chained : (played : List ChainNode) {a : ChainNode} (b c : ChainNode) → FollowsCausally played a b → Contains played b → FollowsCausally played b c
    → FollowsCausally played a c
chained played b c (at_once h) inside f = through inside h f
chained played b c (through there h g) inside f = through there h (chained played b c g inside f)

follows_is : (played bs : List ChainNode) → ((b : ChainNode) → In b bs → Contains played b) → (node other : ChainNode)
    → follows bs node other ≡ true → FollowsCausally played node other
follows_is played [] within node other t = at_once (at_once_is node other t)
follows_is played (b ∷ bs) within node other t =
    turn (or_cases (follows bs node other) (follows bs node b && follows bs b other) t)
    (follows_is played bs (λ c i. within c (inr i)) node other) (follows_is played bs (λ c i. within c (inr i)) node b)
    (follows_is played bs (λ c i. within c (inr i)) b other) where
      turn : (follows bs node other ≡ true) ⊎ ((follows bs node b && follows bs b other) ≡ true)
          → (follows bs node other ≡ true → FollowsCausally played node other) → (follows bs node b ≡ true → FollowsCausally played node b)
          → (follows bs b other ≡ true → FollowsCausally played b other) → FollowsCausally played node other
      turn (inl e) all front back = all e
      turn (inr e) all front back =
          let p = and_parts (follows bs node b) (follows bs b other) e in
          chained played b other (front p.0) (within b (inl refl)) (back p.1)

-- the two ways in which one follows another through some nodes
past : (b : ChainNode) (bs : List ChainNode) (node other : ChainNode) → follows bs node other ≡ true → follows (b ∷ bs) node other ≡ true
past b bs node other t = or_left _ _ t

over : (b : ChainNode) (bs : List ChainNode) (node other : ChainNode) → follows bs node b ≡ true → follows bs b other ≡ true
    → follows (b ∷ bs) node other ≡ true
over b bs node other s t = or_right _ _ (and_from (follows bs node b) (follows bs b other) s t)

joins : (bs : List ChainNode) (node x other : ChainNode) → In x bs → follows bs node x ≡ true → follows bs x other ≡ true
    → follows bs node other ≡ true
joins [] node x other i s t = absurd i
joins (b ∷ bs) node x other (inl e) s t =
    over b bs node other (to (or_cases (follows bs node x) (follows bs node b && follows bs b x) s))
    (from (or_cases (follows bs x other) (follows bs x b && follows bs b other) t)) where
      to : (follows bs node x ≡ true) ⊎ ((follows bs node b && follows bs b x) ≡ true) → follows bs node b ≡ true
      to (inl s) = subst (λ (y : ChainNode). follows bs node y ≡ true) (sym e) s
      to (inr s) = (and_parts (follows bs node b) (follows bs b x) s).0

      from : (follows bs x other ≡ true) ⊎ ((follows bs x b && follows bs b other) ≡ true) → follows bs b other ≡ true
      from (inl t) = subst (λ (y : ChainNode). follows bs y other ≡ true) (sym e) t
      from (inr t) = (and_parts (follows bs x b) (follows bs b other) t).1
joins (b ∷ bs) node x other (inr i) s t =
    turn (or_cases (follows bs node x) (follows bs node b && follows bs b x) s)
    (or_cases (follows bs x other) (follows bs x b && follows bs b other) t)
    (λ p q. joins bs node x other i p q) (λ p q. joins bs node x b i p q) (λ p q. joins bs b x other i p q) where
      turn : (follows bs node x ≡ true) ⊎ ((follows bs node b && follows bs b x) ≡ true)
          → (follows bs x other ≡ true) ⊎ ((follows bs x b && follows bs b other) ≡ true)
          → (follows bs node x ≡ true → follows bs x other ≡ true → follows bs node other ≡ true)
          → (follows bs node x ≡ true → follows bs x b ≡ true → follows bs node b ≡ true)
          → (follows bs b x ≡ true → follows bs x other ≡ true → follows bs b other ≡ true)
          → follows (b ∷ bs) node other ≡ true
      turn (inl s) (inl t) all front back = past b bs node other (all s t)
      turn (inl s) (inr t) all front back =
          let q = and_parts (follows bs x b) (follows bs b other) t in over b bs node other (front s q.0) q.1
      turn (inr s) (inl t) all front back =
          let p = and_parts (follows bs node b) (follows bs b x) s in over b bs node other p.0 (back p.1 t)
      turn (inr s) (inr t) all front back =
          let p = and_parts (follows bs node b) (follows bs b x) s in
          let q = and_parts (follows bs x b) (follows bs b other) t in over b bs node other p.0 q.1

once_follows : (bs : List ChainNode) (node other : ChainNode) → FollowsAtOnce node other → follows bs node other ≡ true
once_follows [] node other h = at_once_test node other h
once_follows (b ∷ bs) node other h = past b bs node other (once_follows bs node other h)

follows_test : (played : List ChainNode) {node other : ChainNode} → FollowsCausally played node other → follows played node other ≡ true
follows_test played {node} {other} (at_once h) = once_follows played node other h
follows_test played {node} {other} (through {between = b} inside h f) =
    joins played node b other (in_contains played b inside) (once_follows played node b h) (follows_test played f)

-- Latest writes

any_of : (test : ChainNode → Bool) (xs : List ChainNode) → list_any test xs ≡ true → (x : ChainNode) × In x xs × (test x ≡ true)
any_of test [] t = absurd (let f : ⊥ = cc in f)
any_of test (x ∷ xs) t = turn (or_cases (test x) (list_any test xs) t) (any_of test xs) where
  turn : (test x ≡ true) ⊎ (list_any test xs ≡ true) → (list_any test xs ≡ true → (y : ChainNode) × In y xs × (test y ≡ true))
      → (y : ChainNode) × ((x ≡ y) ⊎ In y xs) × (test y ≡ true)
  turn (inl t) rest = (x, inl refl, t)
  turn (inr t) rest = let r = rest t in (r.0, inr r.1, r.2)

of_any : (test : ChainNode → Bool) (xs : List ChainNode) (x : ChainNode) → In x xs → test x ≡ true → list_any test xs ≡ true
of_any test [] x i t = absurd i
of_any test (y ∷ xs) x (inl e) t = or_left _ _ (ap test e ∙ t)
of_any test (y ∷ xs) x (inr i) t = or_right (test y) _ (of_any test xs x i t)

module _ (played : List ChainNode) (key : List ℕ) where
  abbrev behind : ChainNode → ChainNode → Bool
  behind node later = writes key later && follows played later node

  latest_is : (node : ChainNode) → is_latest_write played key node ≡ true → IsLatestWrite played key node
  latest_is node t =
      let p = and_parts (writes key node) (not (list_any (behind node) played)) t in
      record {
        writes = p.0;
        latest = λ later inside wrote f. both_ways (list_any (behind node) played) (not-true (list_any (behind node) played) p.1)
            (of_any (behind node) played later (in_contains played later inside)
            (and_from (writes key later) (follows played later node) wrote (follows_test played f)));
      }

  latest_test : (node : ChainNode) → IsLatestWrite played key node → is_latest_write played key node ≡ true
  latest_test node l =
      and_from (writes key node) _ l.writes
      (not_from_false (list_any (behind node) played) (false_from_ne_true (list_any (behind node) played) none)) where
        none : list_any (behind node) played ≡ true → ⊥
        none t =
            let a = any_of (behind node) played t in
            let p = and_parts (writes key a.0) (follows played a.0 node) a.2 in
            l.latest a.0 (contains_in played a.0 a.1) p.0
            (follows_is played played (λ b i. contains_in played b i) a.0 node p.1)

-- Values in order

abbrev less : List ℕ → List ℕ → Bool
less a b = is_lt (slice_cmp nat_cmp a b)

less_turned : (a b : List ℕ) → less a b ≡ true → less b a ≡ false
less_turned a b t = by_order (slice_cmp nat_cmp a b) (slice_cmp nat_cmp b a) (nat_list_cmp_total.antisymm b a) t where
  by_order : (p q : Ordering) → q ≡ ordering_reverse p → is_lt p ≡ true → is_lt q ≡ false
  by_order Less q e t = ap is_lt e
  by_order Equal q e t = absurd (let f : ⊥ = cc in f)
  by_order Greater q e t = absurd (let f : ⊥ = cc in f)

neither_less : (a b : List ℕ) → less a b ≡ false → less b a ≡ false → a ≡ b
neither_less a b s t =
    (bytes_eq-Decides a b).0 (sym (is_eq-slice_cmp a b)
    ∙ by_order (slice_cmp nat_cmp a b) (slice_cmp nat_cmp b a) (nat_list_cmp_total.antisymm b a) s t) where
      by_order : (p q : Ordering) → q ≡ ordering_reverse p → is_lt p ≡ false → is_lt q ≡ false → is_eq p ≡ true
      by_order Less q e s t = absurd (let f : ⊥ = cc in f)
      by_order Equal q e s t = refl
      by_order Greater q e s t = let f : is_lt q ≡ true = ap is_lt e in absurd (both_ways (is_lt q) t f)

-- no value is less than one before it
abbrev Ascends : List (List ℕ) → Type 0
Ascends [] = Unit {0}
Ascends (x ∷ xs) = ((y : List ℕ) → In y xs → less y x ≡ false) × Ascends xs

in_at : (xs : List (List ℕ)) (y : List ℕ) → In y xs → (j : ℕ) × (j < length xs) × ((d : List ℕ) → get_or xs j d ≡ y)
in_at [] y i = absurd i
in_at (x ∷ xs) y (inl e) = (0, omega arith, λ d. e)
in_at (x ∷ xs) y (inr i) = let r = in_at xs y i in (suc r.0, let lt = r.1 in omega (arith, lt), r.2)

ascends_from : (xs : List (List ℕ)) → ((i j : ℕ) (d : List ℕ) → i ≤ j → j < length xs → less (get_or xs j d) (get_or xs i d) ≡ false)
    → Ascends xs
ascends_from [] h = tt
ascends_from (x ∷ xs) h = (
  λ y i. let r = in_at xs y i in
      let lt = r.1 in
      subst (λ (z : List ℕ). less z x ≡ false) (r.2 x) (h 0 (suc r.0) x (omega arith) (omega (arith, lt))),
  ascends_from xs (λ i j d le lt. h (suc i) (suc j) d (omega (arith, le)) (omega (arith, lt))),
)

ascends : (xs : List (List ℕ)) → IsSorted (slice_cmp nat_cmp) xs → Ascends xs
ascends xs sorted = ascends_from xs (λ i j d le lt. sorted_far less (ranks_by nat_list_cmp_total (λ (x : List ℕ). x)) xs sorted i j d le lt)

get_in : (xs : List (List ℕ)) (k : ℕ) (d : List ℕ) → k < length xs → In (get_or xs k d) xs
get_in [] k d lt = absurd (let f : ⊥ = omega (arith, lt) in f)
get_in (x ∷ xs) zero d lt = inl refl
get_in (x ∷ xs) (suc k) d lt = inr (get_in xs k d (omega (arith, lt)))

next_up : (xs : List (List ℕ)) → Ascends xs → (k : ℕ) (d : List ℕ) → suc k < length xs → less (get_or xs (suc k) d) (get_or xs k d) ≡ false
next_up [] up k d lt = absurd (let f : ⊥ = omega (arith, lt) in f)
next_up (x ∷ xs) up zero d lt = up.0 (get_or xs 0 d) (get_in xs 0 d (omega (arith, lt)))
next_up (x ∷ xs) up (suc k) d lt = next_up xs up.1 k d (omega (arith, lt))

sorted_of : (xs : List (List ℕ)) → Ascends xs → IsSorted (slice_cmp nat_cmp) xs
sorted_of xs up k d low lt =
    let e : suc k ≡ k + 1 = omega arith in
    subst (λ (j : ℕ). less (get_or xs j d) (get_or xs k d) ≡ false) e (next_up xs up k d (omega (arith, lt)))

in_put : (value : List ℕ) (xs : List (List ℕ)) (y : List ℕ) → In y (put_in_order value xs) → (value ≡ y) ⊎ In y xs
in_put value [] y (inl e) = inl e
in_put value [] y (inr i) = absurd i
in_put value (x ∷ xs) y i =
    choice (λ (l : List (List ℕ)). In y l → (value ≡ y) ⊎ ((x ≡ y) ⊎ In y xs)) (less x value) (x ∷ put_in_order value xs) (value ∷ x ∷ xs)
    (λ _. further (in_put value xs y)) (λ _. here) i where
      further : (In y (put_in_order value xs) → (value ≡ y) ⊎ In y xs) → (x ≡ y) ⊎ In y (put_in_order value xs)
          → (value ≡ y) ⊎ ((x ≡ y) ⊎ In y xs)
      further rest (inl e) = inr (inl e)
      further rest (inr j) = turn (rest j) where
        turn : (value ≡ y) ⊎ In y xs → (value ≡ y) ⊎ ((x ≡ y) ⊎ In y xs)
        turn (inl e) = inl e
        turn (inr k) = inr (inr k)

      here : (value ≡ y) ⊎ ((x ≡ y) ⊎ In y xs) → (value ≡ y) ⊎ ((x ≡ y) ⊎ In y xs)
      here h = h

less_chain : (a b c : List ℕ) → less b a ≡ false → less c b ≡ false → less c a ≡ false
less_chain a b c s t = false_from_ne_true (less c a) (λ u. absurd (wrong u)) where
  wrong : less c a ≡ true → ⊥
  wrong u = elim (cases_Bool (less a b)) [
    | inl ab ↦
        let p = is_less c a u in
        let q = is_less a b ab in
        both_ways (less c b) t (ap is_lt (nat_list_cmp_total.trans c a b p q))
    | inr ab ↦
        let e : a ≡ b = neither_less a b ab s in
        both_ways (less c b) t (subst (λ (x : List ℕ). less c x ≡ true) e u)
  ] where
    is_less : (x y : List ℕ) → less x y ≡ true → slice_cmp nat_cmp x y ≡ Less
    is_less x y h = by_order (slice_cmp nat_cmp x y) h where
      by_order : (p : Ordering) → is_lt p ≡ true → p ≡ Less
      by_order Less h = refl
      by_order Equal h = absurd (let f : ⊥ = cc in f)
      by_order Greater h = absurd (let f : ⊥ = cc in f)

put_ascends : (value : List ℕ) (xs : List (List ℕ)) → Ascends xs → Ascends (put_in_order value xs)
put_ascends value [] up = (λ y i. absurd i, tt)
put_ascends value (x ∷ xs) up =
    choice Ascends (less x value) (x ∷ put_in_order value xs) (value ∷ x ∷ xs)
    (λ t. (λ y i. later t y (in_put value xs y i), put_ascends value xs up.1))
    (λ f. (λ y i. after f y i, up)) where
      later : less x value ≡ true → (y : List ℕ) → (value ≡ y) ⊎ In y xs → less y x ≡ false
      later t y (inl e) = subst (λ (z : List ℕ). less z x ≡ false) e (less_turned x value t)
      later t y (inr i) = up.0 y i

      after : less x value ≡ false → (y : List ℕ) → (x ≡ y) ⊎ In y xs → less y value ≡ false
      after f y (inl e) = subst (λ (z : List ℕ). less z value ≡ false) e f
      after f y (inr i) = less_chain value x y f (up.0 y i)

order_ascends : (xs : List (List ℕ)) → Ascends (sorted_values xs)
order_ascends [] = tt
order_ascends (x ∷ xs) = put_ascends x (sorted_values xs) (order_ascends xs)

-- two exchanged at the front
exchanged : {A : Type 0} (a b : A) (xs : List A) → IsPermutation (a ∷ b ∷ xs) (b ∷ a ∷ xs)
exchanged a b xs = record { moves = (0, 1) ∷ []; below = (omega arith, omega arith, tt); is = refl }

put_permutes : (value : List ℕ) (xs : List (List ℕ)) → IsPermutation (value ∷ xs) (put_in_order value xs)
put_permutes value [] = IsPermutation-refl (value ∷ [])
put_permutes value (x ∷ xs) =
    choice (IsPermutation (value ∷ x ∷ xs)) (less x value) (x ∷ put_in_order value xs) (value ∷ x ∷ xs)
    (λ _. IsPermutation-trans (value ∷ x ∷ xs) (x ∷ value ∷ xs) (x ∷ put_in_order value xs) (exchanged value x xs)
    (IsPermutation-cons x (value ∷ xs) (put_in_order value xs) (put_permutes value xs)))
    (λ _. IsPermutation-refl (value ∷ x ∷ xs))

order_permutes : (xs : List (List ℕ)) → IsPermutation xs (sorted_values xs)
order_permutes [] = IsPermutation-refl []
order_permutes (x ∷ xs) =
    IsPermutation-trans (x ∷ xs) (x ∷ sorted_values xs) (put_in_order x (sorted_values xs))
    (IsPermutation-cons x xs (sorted_values xs) (order_permutes xs)) (put_permutes x (sorted_values xs))

-- how often a value stands in a list
abbrev often : List ℕ → List (List ℕ) → ℕ
often v xs = sum_by (λ (x : List ℕ). cond (bytes_eq x v) 1 0) xs

itself : (v : List ℕ) → bytes_eq v v ≡ true
itself v = (bytes_eq-Decides v v).1 refl

often_first : (v : List ℕ) (xs : List (List ℕ)) → 0 < often v (v ∷ xs)
often_first v xs =
    let c = sum_by-cons (λ (x : List ℕ). cond (bytes_eq x v) 1 0) v xs in
    let one : cond {A = ℕ} (bytes_eq v v) 1 0 ≡ 1 = if_true (bytes_eq v v) 1 0 (itself v) in omega (arith, c, one)

often_in : (v : List ℕ) (xs : List (List ℕ)) → 0 < often v xs → In v xs
often_in v [] h = absurd (let f : ⊥ = omega (arith, h) in f)
often_in v (x ∷ xs) h =
    let c = sum_by-cons (λ (y : List ℕ). cond (bytes_eq y v) 1 0) x xs in
    by_test _ (bytes_eq x v) (λ t. inl ((bytes_eq-Decides x v).0 t))
    (λ f. let none : cond {A = ℕ} (bytes_eq x v) 1 0 ≡ 0 = if_false (bytes_eq x v) 1 0 f in
    inr (often_in v xs (omega (arith, c, none, h))))

first_low : (x y : List ℕ) (xs ys : List (List ℕ)) → Ascends (x ∷ xs) → ((v : List ℕ) → often v (x ∷ xs) ≡ often v (y ∷ ys))
    → less y x ≡ false
first_low x y xs ys up same =
    let there = often_in y (x ∷ xs) (let a = often_first y ys in let b = same y in omega (arith, a, b)) in turn there where
      turn : (x ≡ y) ⊎ In y xs → less y x ≡ false
      turn (inl e) = subst (λ (z : List ℕ). less z x ≡ false) e (ap is_lt (tied_itself nat_list_cmp_total x))
      turn (inr i) = up.0 y i

-- lists in order with the same values are one
one_order : (xs ys : List (List ℕ)) → Ascends xs → Ascends ys → ((v : List ℕ) → often v xs ≡ often v ys) → xs ≡ ys
one_order [] [] upx upy same = refl
one_order [] (y ∷ ys) upx upy same =
    absurd (let a = often_first y ys in let b = same y in let f : ⊥ = omega (arith, a, b) in f)
one_order (x ∷ xs) [] upx upy same =
    absurd (let a = often_first x xs in let b = same x in let f : ⊥ = omega (arith, a, b) in f)
one_order (x ∷ xs) (y ∷ ys) upx upy same =
    let e : x ≡ y = neither_less x y (first_low y x ys xs upy (λ v. sym (same v))) (first_low x y xs ys upx same) in
    let rest : (v : List ℕ) → often v xs ≡ often v ys =
    λ v. let a = sum_by-cons (λ (z : List ℕ). cond (bytes_eq z v) 1 0) x xs in
    let b = sum_by-cons (λ (z : List ℕ). cond (bytes_eq z v) 1 0) y ys in
    let c : cond {A = ℕ} (bytes_eq x v) 1 0 ≡ cond (bytes_eq y v) 1 0 = ap (λ (z : List ℕ). cond {A = ℕ} (bytes_eq z v) 1 0) e in
    let s = same v in omega (arith, a, b, c, s) in
    ap (λ (z : List ℕ). z ∷ xs) e ∙ ap (λ (zs : List (List ℕ)). y ∷ zs) (one_order xs ys upx.1 upy.1 rest)

-- Answers

abbrev written : List ChainNode → List ℕ → List (List ℕ)
written played key = map (λ node. unwrap_or (written_value key node) []) (filter (is_latest_write played key) played)

-- the computed values are the answer
pub causal_answer : (played : List ChainNode) (key : List ℕ) → IsCausalAnswer played key (causal_values played key)
unfolding causal_values
causal_answer played key = record {
  is_latest = is_latest_write played key;
  exactly = λ node _. (latest_is played key node, latest_test played key node);
  each_value = IsPermutation-sym (written played key) (sorted_values (written played key)) (order_permutes (written played key));
  sorted = sorted_of (sorted_values (written played key)) (order_ascends (written played key));
}

-- what stands in the map of a filtered list, counted over the whole
counted : (test : ChainNode → Bool) (f : ChainNode → List ℕ) (v : List ℕ) (xs : List ChainNode)
    → often v (map f (filter test xs)) ≡ sum_by (λ (n : ChainNode). cond (test n) (cond (bytes_eq (f n) v) 1 0) 0) xs
counted test f v [] = refl
counted test f v (x ∷ xs) =
    let here : ChainNode → ℕ = λ n. cond (test n) (cond (bytes_eq (f n) v) 1 0) 0 in
    let rest = counted test f v xs in
    let c = sum_by-cons here x xs in
    choice (λ (l : List ChainNode). often v (map f l) ≡ sum_by here (x ∷ xs)) (test x) (x ∷ filter test xs) (filter test xs)
    (λ t. let d = sum_by-cons (λ (y : List ℕ). cond (bytes_eq y v) 1 0) (f x) (map f (filter test xs)) in
    let e : here x ≡ cond (bytes_eq (f x) v) 1 0 = if_true (test x) (cond {A = ℕ} (bytes_eq (f x) v) 1 0) 0 t in
    omega (arith, c, d, e, rest))
    (λ n. let e : here x ≡ 0 = if_false (test x) (cond {A = ℕ} (bytes_eq (f x) v) 1 0) 0 n in omega (arith, c, e, rest))

same_sums : (f g : ChainNode → ℕ) (xs : List ChainNode) → ((x : ChainNode) → In x xs → f x ≡ g x) → sum_by f xs ≡ sum_by g xs
same_sums f g [] h = refl
same_sums f g (x ∷ xs) h =
    let a = sum_by-cons f x xs in
    let b = sum_by-cons g x xs in
    let c = h x (inl refl) in
    let d = same_sums f g xs (λ y i. h y (inr i)) in omega (arith, a, b, c, d)

-- what follows in one list follows in another one with the same nodes
moved : (ms ns : List ChainNode) → ((x : ChainNode) → Contains ms x → Contains ns x) → {node other : ChainNode}
    → FollowsCausally ms node other → FollowsCausally ns node other
moved ms ns same (at_once h) = at_once h
moved ms ns same (through {between = b} inside h f) = through (same b inside) h (moved ms ns same f)

latest_moved : (ms ns : List ChainNode) (key : List ℕ) → ((x : ChainNode) → Contains ms x → Contains ns x)
    → ((x : ChainNode) → Contains ns x → Contains ms x) → (node : ChainNode) → IsLatestWrite ms key node → IsLatestWrite ns key node
latest_moved ms ns key to back node l = record {
  writes = l.writes;
  latest = λ later inside wrote f. l.latest later (back later inside) wrote (moved ns ms back f);
}

-- the nodes determine the answer
pub one_answer : (ms ns : List ChainNode) (key : List ℕ) (xs ys : List (List ℕ)) → IsPermutation ms ns → IsCausalAnswer ms key xs
    → IsCausalAnswer ns key ys → xs ≡ ys
one_answer ms ns key xs ys same a b = one_order xs ys (ascends xs a.sorted) (ascends ys b.sorted) each where
  to : (x : ChainNode) → Contains ms x → Contains ns x
  to x = Contains-permutation ms ns x same

  back : (x : ChainNode) → Contains ns x → Contains ms x
  back x = Contains-permutation ns ms x (IsPermutation-sym ms ns same)

  value : ChainNode → List ℕ
  value node = unwrap_or (written_value key node) []

  agrees : (x : ChainNode) → Contains ms x → a.is_latest x ≡ b.is_latest x
  agrees x inside =
      let there = to x inside in
      same_test (a.is_latest x) (b.is_latest x)
      (λ t. (b.exactly x there).1 (latest_moved ms ns key to back x ((a.exactly x inside).0 t)))
      (λ t. (a.exactly x inside).1 (latest_moved ns ms key back to x ((b.exactly x there).0 t)))

  of_answer : (cs : List ChainNode) (zs : List (List ℕ)) (c : IsCausalAnswer cs key zs) (v : List ℕ)
      → often v zs ≡ sum_by (λ (n : ChainNode). cond (c.is_latest n) (cond (bytes_eq (value n) v) 1 0) 0) cs
  of_answer cs zs c v =
      sym (sum_by-IsPermutation (λ (x : List ℕ). cond (bytes_eq x v) 1 0) zs (map value (filter c.is_latest cs)) c.each_value)
      ∙ counted c.is_latest value v cs

  each : (v : List ℕ) → often v xs ≡ often v ys
  each v =
      of_answer ms xs a v
      ∙ (same_sums (λ (n : ChainNode). cond (a.is_latest n) (cond (bytes_eq (value n) v) 1 0) 0)
      (λ (n : ChainNode). cond (b.is_latest n) (cond (bytes_eq (value n) v) 1 0) 0) ms
      (λ x i. ap (λ (t : Bool). cond {A = ℕ} t (cond (bytes_eq (value x) v) 1 0) 0) (agrees x (contains_in ms x i)))
      ∙ (sym (sum_by-IsPermutation (λ (n : ChainNode). cond (b.is_latest n) (cond (bytes_eq (value n) v) 1 0) 0) ms ns same)
      ∙ sym (of_answer ns ys b v)))
