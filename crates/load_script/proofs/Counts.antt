-- Lists with the same elements are equally long; pairs of elements; and sums over clients.
use Rattle.std.proofs.Common.{◌≡◌, ℕ, zero, suc, ◌+◌, ◌*◌, ◌<◌, ◌≤◌, Bool, true, false, cond, List, [], ◌∷◌, ◌++◌, length, map, refl, ap, sym, subst, ◌∙◌, ◌⊎◌, inl, inr, arith, length-append}
use Rattle.std.specs.Prelude.{◌≢◌, ◌==◌}
use Rattle.std.specs.List.{filter, range_with_len}
use Rattle.std.proofs.lemmas.Bool.{eq-eqb, eqb-true, cases_lt, false_from_ne_true}
use Rattle.std.proofs.lemmas.List.{length-map}
use Rattle.col_core.proofs.CallerLemmas.{In, in_left, in_right, if_true, if_false}
pub use Rattle.col_core.proofs.CallerLemmas.{range_has as in_range}
pub use Rattle.col_core.proofs.CallerLemmas.{in_range as range_in}
pub use Rattle.col_core.proofs.CallerLemmas.{in_map-back as in_map}
pub use Rattle.col_core.proofs.CallerLemmas.{in_map as in_map_back}

-- no element stands twice
abbrev pub Distinct : {A : Type 0} → List A → Type 0
Distinct [] = Unit {0}
Distinct (x ∷ xs) = (In x xs → ⊥) × Distinct xs

abbrev Without : {A : Type 0} → A → List A → Type 0
Without {A} e ys = (zs : List A) × (length ys ≡ suc (length zs)) × ((x : A) → In x ys → x ≢ e → In x zs)

without : {A : Type 0} (e : A) (ys : List A) → In e ys → Without e ys
without e [] i = absurd i
without {A} e (y ∷ ys) (inl is) = (ys, refl, turn) where
  turn : (x : A) → (y ≡ x) ⊎ In x ys → x ≢ e → In x ys
  turn x (inl f) ne = absurd (ne (sym f ∙ is))
  turn x (inr j) ne = j
without {A} e (y ∷ ys) (inr i) = let r = without e ys i in (y ∷ r.0, ap suc r.1, turn r.0 r.2) where
  turn : (zs : List A) → ((x : A) → In x ys → x ≢ e → In x zs) → (x : A) → (y ≡ x) ⊎ In x ys → x ≢ e → (y ≡ x) ⊎ In x zs
  turn zs rest x (inl f) ne = inl f
  turn zs rest x (inr j) ne = inr (rest x j ne)

-- elements among others, none twice, are no more than those
pub few : {A : Type 0} (xs ys : List A) → Distinct xs → ((x : A) → In x xs → In x ys) → length xs ≤ length ys
few [] ys d sub = omega arith
few {A} (x ∷ xs) ys d sub =
    let w = without x ys (sub x (inl refl)) in
    let n = few xs w.0 d.1 (λ y i. w.2 y (sub y (inr i)) (λ e. d.0 (subst (λ (z : A). In z xs) e i))) in
    let l = w.1 in
    omega (arith, n, l)

pub as_many : {A : Type 0} (xs ys : List A) → Distinct xs → Distinct ys → ((x : A) → In x xs → In x ys)
    → ((x : A) → In x ys → In x xs) → length xs ≡ length ys
as_many xs ys d e sub back = let a = few xs ys d sub in let b = few ys xs e back in omega (arith, a, b)

-- the pairs of elements
pub pairs : {A B : Type 0} → List A → List B → List (A × B)
pairs [] bs = []
pairs (a ∷ rest) bs = map (λ b. (a, b)) bs ++ pairs rest bs

pub in_pairs : {A B : Type 0} (rest : List A) (bs : List B) (a : A) (b : B) → In a rest → In b bs → In {A = A × B}
    (a, b) (pairs rest bs)
unfolding pairs
in_pairs [] bs a b i j = absurd i
in_pairs {A} {B} (x ∷ rest) bs a b (inl e) j =
    in_left (a, b) (map (λ (y : B). (x, y)) bs) (pairs rest bs)
    (subst (λ (z : A). In {A = A × B} (a, b) (map (λ (y : B). (z, y)) bs)) (sym e) (in_map (λ (y : B). (a, y)) bs b j))
in_pairs {A} {B} (x ∷ rest) bs a b (inr i) j =
    in_right (a, b) (map (λ (y : B). (x, y)) bs) (pairs rest bs) (in_pairs rest bs a b i j)

-- so many times a number
pub times : ℕ → ℕ → ℕ
times zero m = 0
times (suc n) m = m + times n m

pub length_pairs : {A B : Type 0} (xs : List A) (bs : List B) → length (pairs xs bs) ≡ times (length xs) (length bs)
unfolding pairs times
length_pairs [] bs = refl
length_pairs {A} {B} (x ∷ xs) bs =
    length-append (map (λ (y : B). (x, y)) bs) (pairs xs bs)
    ∙ (ap (λ n. n + length (pairs xs bs)) (length-map bs (λ (y : B). (x, y))) ∙ ap (λ n. length bs + n)
    (length_pairs xs bs))

pub two : (m : ℕ) → times 2 m ≡ 2 * m
unfolding times
two m = omega arith

pub four : (m : ℕ) → times 4 m ≡ 4 * m
unfolding times
four m = omega arith

pub eight : (m : ℕ) → times 8 m ≡ 8 * m
unfolding times
eight m = omega arith

pub length_range : (a n : ℕ) → length (range_with_len a n) ≡ n
length_range a zero = refl
length_range a (suc n) = ap suc (length_range (a + 1) n)

-- SUMS OVER CLIENTS
-- the sum of a number for each client below this one
unfoldable pub total : ℕ → (ℕ → ℕ) → ℕ
total zero f = 0
total (suc k) f = total k f + f k

pub total_same : (k : ℕ) (f g : ℕ → ℕ) → ((i : ℕ) → i < k → f i ≡ g i) → total k f ≡ total k g
unfolding total
total_same zero f g same = refl
total_same (suc k) f g same =
    let a = total_same k f g (λ i lt. same i (omega (arith, lt))) in let b = same k (omega arith) in omega (arith, a, b)

pub total_add : (k : ℕ) (f g : ℕ → ℕ) → total k (λ i. f i + g i) ≡ total k f + total k g
unfolding total
total_add zero f g = refl
total_add (suc k) f g = let a = total_add k f g in omega (arith, a)

total_none : (k j n : ℕ) → k ≤ j → total k (λ i. cond (j == i) n 0) ≡ 0
unfolding total
total_none zero j n le = refl
total_none (suc k) j n le =
    let a = total_none k j n (omega (arith, le)) in
    let b = if_false (j == k) n 0 (false_from_ne_true (j == k)
    (λ t. let e = eqb-true j k t in let x : ⊥ = omega (arith, e, le) in x)) in
    omega (arith, a, b)

pub total_one : (k j n : ℕ) → j < k → total k (λ i. cond (j == i) n 0) ≡ n
unfolding total
total_one zero j n lt = absurd (let x : ⊥ = omega (arith, lt) in x)
total_one (suc k) j n lt = elim (cases_lt j k) [
  | inl l ↦
      let a = total_one k j n l in
      let b = if_false (j == k) n 0 (false_from_ne_true (j == k)
      (λ t. let e = eqb-true j k t in let x : ⊥ = omega (arith, e, l) in x)) in
      omega (arith, a, b)
  | inr g ↦
      let a = total_none k j n g in
      let b = if_true (j == k) n 0 (eq-eqb j k (omega (arith, g, lt))) in
      omega (arith, a, b)
]

zero_total : (k : ℕ) → total k (λ i. 0) ≡ 0
unfolding total
zero_total zero = refl
zero_total (suc k) = let a = zero_total k in omega (arith, a)

module _ {X : Type 0} (f : X → ℕ) (p : X → Bool) where
  -- how many elements of a client pass the test
  abbrev pub passes : List X → ℕ → ℕ
  passes xs i = length (filter p (filter (λ x. f x == i) xs))

  one_more : (x : X) (xs : List X) (i : ℕ) → passes (x ∷ xs) i ≡ cond (f x == i) (cond (p x) 1 0) 0 + passes xs i
  one_more x xs i = at (f x == i) (p x) where
    at : (b c : Bool) → length (filter p (cond b (x ∷ filter (λ y. f y == i) xs) (filter (λ y. f y == i) xs)))
        ≡ cond b (cond (p x) 1 0) 0 + passes xs i
    at false c = omega arith
    at true c = inner (p x) where
      inner : (d : Bool) → length (cond d (x ∷ filter p (filter (λ y. f y == i) xs))
          (filter p (filter (λ y. f y == i) xs)))
          ≡ cond d 1 0 + passes xs i
      inner true = omega arith
      inner false = omega arith

  passes_more : (x : X) (xs : List X) → length (filter p (x ∷ xs)) ≡ cond (p x) 1 0 + length (filter p xs)
  passes_more x xs = at (p x) where
    at : (d : Bool) → length (cond d (x ∷ filter p xs) (filter p xs)) ≡ cond d 1 0 + length (filter p xs)
    at true = omega arith
    at false = omega arith

  -- of elements that are each of a client those that pass are as many as those of all clients
  pub by_client : (k : ℕ) (xs : List X) → ((x : X) → In x xs → f x < k) → length (filter p xs) ≡ total k (passes xs)
  by_client k [] within = sym (zero_total k)
  by_client k (x ∷ xs) within =
      let rest = by_client k xs (λ y i. within y (inr i)) in
      let one = total_one k (f x) (cond (p x) 1 0) (within x (inl refl)) in
      let add = total_add k (λ i. cond (f x == i) (cond (p x) 1 0) 0) (passes xs) in
      let same = total_same k (passes (x ∷ xs)) (λ i. cond (f x == i) (cond (p x) 1 0) 0 + passes xs i)
      (λ i lt. one_more x xs i) in
      passes_more x xs ∙ (ap (λ n. n + length (filter p xs)) (sym one) ∙
      (ap (λ n. total k (λ i. cond (f x == i) (cond (p x) 1 0) 0) + n) rest ∙ (sym add ∙ sym same)))

pub all_pass : {X : Type 0} (xs : List X) → length (filter (λ x. true) xs) ≡ length xs
all_pass [] = refl
all_pass (x ∷ xs) = ap suc (all_pass xs)
