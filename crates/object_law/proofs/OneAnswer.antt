-- The nodes of a causal map determine its answer, in whatever order they are listed.
use Rattle.std.proofs.Common.{◌≡◌, ◌⊎◌, inl, inr, ℕ, suc, ◌<◌, ◌≤◌, Bool, true, false, cond, List, [], ◌∷◌, length, get_or, map, Ordering, Less, Equal, Greater, refl, ap, sym, subst, ◌∙◌, arith}
use Rattle.std.specs.Prelude.{filter, unwrap_or}
use Rattle.std.specs.List.{sum_by}
use Rattle.std.specs.List.Sorted.{IsPermutation, IsSorted}
use Rattle.std.specs.Ordering.{is_lt, is_eq, nat_cmp, ordering_reverse}
use Rattle.std.specs.Cmp.Lexicographic.{slice_cmp}
use Rattle.std.specs.Str.{bytes_eq}
use Rattle.std.proofs.lemmas.Bool.{both_ways}
use Rattle.std.proofs.lemmas.Cmp.{nat_list_cmp_total, tied_itself}
use Rattle.std.proofs.lemmas.List.Sorted.{Contains-permutation, IsPermutation-map, IsPermutation-sym, IsPermutation-trans, ranks_by, sorted_far, sum_by-IsPermutation}
use Rattle.std.proofs.lemmas.List.Sums.{sum_by-cons}
use Rattle.std.proofs.lemmas.Map.Text.{is_eq-slice_cmp}
use Rattle.std.proofs.lemmas.Slice.Eq.{bytes_eq-Decides}
use Rattle.log_node.proofs.CallerLemmas.{same_tests}
use Rattle.col_core.proofs.CallerLemmas.{In, by_test, contains_in, if_false, if_true}
use Rattle.object_fold.specs.Causal.{ChainNode, FollowsCausally, IsCausalAnswer, IsLatestWrite, written_value}
use Rattle.object_fold.specs.Causal.FollowsCausally.{at_once, through}
use Rattle.object_law.proofs.Shuffles.{filtered}

-- IN ANOTHER ORDER

follows_in : (ns ms : List ChainNode) → IsPermutation ns ms → {a b : ChainNode} → FollowsCausally ns a b → FollowsCausally ms a b
follows_in ns ms s (at_once h) = at_once h
follows_in ns ms s (through {between = b} inside h f) =
    through (Contains-permutation ns ms b s inside) h (follows_in ns ms s f)

latest_in : (ns ms : List ChainNode) (key : List ℕ) (node : ChainNode) → IsPermutation ns ms → IsLatestWrite ns key node
    → IsLatestWrite ms key node
latest_in ns ms key node s l = record {
  writes = l.writes;
  latest = λ later inside wrote f.
      l.latest later (Contains-permutation ms ns later (IsPermutation-sym ns ms s) inside) wrote
      (follows_in ms ns (IsPermutation-sym ns ms s) f);
}

pub answer_in : (ns ms : List ChainNode) (key : List ℕ) (values : List (List ℕ)) → IsPermutation ns ms
    → IsCausalAnswer ns key values → IsCausalAnswer ms key values
answer_in ns ms key values s a =
    let value : ChainNode → List ℕ = λ (node : ChainNode). unwrap_or (written_value key node) [] in record {
      is_latest = a.is_latest;
      exactly = λ node inside.
          let e = a.exactly node (Contains-permutation ms ns node (IsPermutation-sym ns ms s) inside) in (
            λ t. latest_in ns ms key node s (e.0 t),
            λ l. e.1 (latest_in ms ns key node (IsPermutation-sym ns ms s) l),
          );
      each_value = IsPermutation-trans values (map value (filter a.is_latest ns)) (map value (filter a.is_latest ms))
          a.each_value (IsPermutation-map value (filter a.is_latest ns) (filter a.is_latest ms) (filtered a.is_latest ns ms s));
      sorted = a.sorted;
    }

-- VALUES IN ORDER

abbrev less : List ℕ → List ℕ → Bool
less a b = is_lt (slice_cmp nat_cmp a b)

neither_less : (a b : List ℕ) → less a b ≡ false → less b a ≡ false → a ≡ b
neither_less a b s t =
    (bytes_eq-Decides a b).0 (sym (is_eq-slice_cmp a b)
    ∙ by_order (slice_cmp nat_cmp a b) (slice_cmp nat_cmp b a) (nat_list_cmp_total.antisymm b a) s t) where
      by_order : (p q : Ordering) → q ≡ ordering_reverse p → is_lt p ≡ false → is_lt q ≡ false → is_eq p ≡ true
      by_order Less q e s t = absurd (let f : ⊥ = cc in f)
      by_order Equal q e s t = refl
      by_order Greater q e s t = let f : is_lt q ≡ true = ap is_lt e in absurd (both_ways (is_lt q) t f)

-- no value is less than one before it
abbrev Ascends : List (List ℕ) → Type 0
Ascends [] = Unit {0}
Ascends (x ∷ xs) = ((y : List ℕ) → In y xs → less y x ≡ false) × Ascends xs

in_at : (xs : List (List ℕ)) (y : List ℕ) → In y xs → (j : ℕ) × (j < length xs) × ((d : List ℕ) → get_or xs j d ≡ y)
in_at [] y i = absurd i
in_at (x ∷ xs) y (inl e) = (0, omega arith, λ d. e)
in_at (x ∷ xs) y (inr i) = let r = in_at xs y i in (suc r.0, let lt = r.1 in omega (arith, lt), r.2)

ascends_from : (xs : List (List ℕ)) → ((i j : ℕ) (d : List ℕ) → i ≤ j → j < length xs → less (get_or xs j d) (get_or xs i d) ≡ false)
    → Ascends xs
ascends_from [] h = tt
ascends_from (x ∷ xs) h = (
  λ y i. let r = in_at xs y i in
      let lt = r.1 in
      subst (λ (z : List ℕ). less z x ≡ false) (r.2 x) (h 0 (suc r.0) x (omega arith) (omega (arith, lt))),
  ascends_from xs (λ i j d le lt. h (suc i) (suc j) d (omega (arith, le)) (omega (arith, lt))),
)

ascends : (xs : List (List ℕ)) → IsSorted (slice_cmp nat_cmp) xs → Ascends xs
ascends xs sorted = ascends_from xs (λ i j d le lt. sorted_far less (ranks_by nat_list_cmp_total (λ (x : List ℕ). x)) xs sorted i j d le lt)

-- how often a value stands in a list
abbrev often : List ℕ → List (List ℕ) → ℕ
often v xs = sum_by (λ (x : List ℕ). cond (bytes_eq x v) 1 0) xs

often_first : (v : List ℕ) (xs : List (List ℕ)) → 0 < often v (v ∷ xs)
often_first v xs =
    let c = sum_by-cons (λ (x : List ℕ). cond (bytes_eq x v) 1 0) v xs in
    let one : cond {A = ℕ} (bytes_eq v v) 1 0 ≡ 1 = if_true (bytes_eq v v) 1 0 ((bytes_eq-Decides v v).1 refl) in
    omega (arith, c, one)

often_in : (v : List ℕ) (xs : List (List ℕ)) → 0 < often v xs → In v xs
often_in v [] h = absurd (let f : ⊥ = omega (arith, h) in f)
often_in v (x ∷ xs) h =
    let c = sum_by-cons (λ (y : List ℕ). cond (bytes_eq y v) 1 0) x xs in
    by_test _ (bytes_eq x v) (λ t. inl ((bytes_eq-Decides x v).0 t))
    (λ f. let none : cond {A = ℕ} (bytes_eq x v) 1 0 ≡ 0 = if_false (bytes_eq x v) 1 0 f in
    inr (often_in v xs (omega (arith, c, none, h))))

first_low : (x y : List ℕ) (xs ys : List (List ℕ)) → Ascends (x ∷ xs) → ((v : List ℕ) → often v (x ∷ xs) ≡ often v (y ∷ ys))
    → less y x ≡ false
first_low x y xs ys up same =
    let there = often_in y (x ∷ xs) (let a = often_first y ys in let b = same y in omega (arith, a, b)) in turn there where
      turn : (x ≡ y) ⊎ In y xs → less y x ≡ false
      turn (inl e) = subst (λ (z : List ℕ). less z x ≡ false) e (ap is_lt (tied_itself nat_list_cmp_total x))
      turn (inr i) = up.0 y i

-- lists in order with the same values are one
one_order : (xs ys : List (List ℕ)) → Ascends xs → Ascends ys → ((v : List ℕ) → often v xs ≡ often v ys) → xs ≡ ys
one_order [] [] upx upy same = refl
one_order [] (y ∷ ys) upx upy same =
    absurd (let a = often_first y ys in let b = same y in let f : ⊥ = omega (arith, a, b) in f)
one_order (x ∷ xs) [] upx upy same =
    absurd (let a = often_first x xs in let b = same x in let f : ⊥ = omega (arith, a, b) in f)
one_order (x ∷ xs) (y ∷ ys) upx upy same =
    let e : x ≡ y = neither_less x y (first_low y x ys xs upy (λ v. sym (same v))) (first_low x y xs ys upx same) in
    let rest : (v : List ℕ) → often v xs ≡ often v ys =
    λ v. let a = sum_by-cons (λ (z : List ℕ). cond (bytes_eq z v) 1 0) x xs in
    let b = sum_by-cons (λ (z : List ℕ). cond (bytes_eq z v) 1 0) y ys in
    let c : cond {A = ℕ} (bytes_eq x v) 1 0 ≡ cond (bytes_eq y v) 1 0 = ap (λ (z : List ℕ). cond {A = ℕ} (bytes_eq z v) 1 0) e in
    let s = same v in omega (arith, a, b, c, s) in
    ap (λ (z : List ℕ). z ∷ xs) e ∙ ap (λ (zs : List (List ℕ)). y ∷ zs) (one_order xs ys upx.1 upy.1 rest)

-- ONE ANSWER

-- tests that agree on all of a list keep the same of it
same_kept : (f g : ChainNode → Bool) (xs : List ChainNode) → ((x : ChainNode) → In x xs → f x ≡ g x) → filter f xs ≡ filter g xs
same_kept f g [] same = refl
same_kept f g (x ∷ xs) same = by (f x) (g x) (same x (inl refl)) (same_kept f g xs (λ y i. same y (inr i))) where
  by : (a b : Bool) → a ≡ b → filter f xs ≡ filter g xs → cond a (x ∷ filter f xs) (filter f xs) ≡ cond b (x ∷ filter g xs) (filter g xs)
  by true true e more = ap (λ (l : List ChainNode). x ∷ l) more
  by true false e more = absurd (let z : ⊥ = cc (e) in z)
  by false true e more = absurd (let z : ⊥ = cc (e) in z)
  by false false e more = more

pub one_answer : (nodes : List ChainNode) (key : List ℕ) (xs ys : List (List ℕ)) → IsCausalAnswer nodes key xs
    → IsCausalAnswer nodes key ys → xs ≡ ys
one_answer nodes key xs ys a b =
    one_order xs ys (ascends xs a.sorted) (ascends ys b.sorted)
    (λ v. sym (sum_by-IsPermutation (λ (x : List ℕ). cond (bytes_eq x v) 1 0) xs ys moved)) where
      value : ChainNode → List ℕ
      value node = unwrap_or (written_value key node) []

      agree : (x : ChainNode) → In x nodes → a.is_latest x ≡ b.is_latest x
      agree x i =
          let inside = contains_in nodes x i in
          same_tests (a.is_latest x) (b.is_latest x) (λ t. (b.exactly x inside).1 ((a.exactly x inside).0 t))
          (λ t. (a.exactly x inside).1 ((b.exactly x inside).0 t))

      moved : IsPermutation xs ys
      moved =
          IsPermutation-trans xs (map value (filter b.is_latest nodes)) ys
          (subst (λ (l : List ChainNode). IsPermutation xs (map value l)) (same_kept a.is_latest b.is_latest nodes agree) a.each_value)
          (IsPermutation-sym ys (map value (filter b.is_latest nodes)) b.each_value)
