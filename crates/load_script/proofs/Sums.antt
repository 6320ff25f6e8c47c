-- Counts over lists of lists, and over lists that a test or a function leaves alike.
use Rattle.std.proofs.Common.{◌≡◌, ℕ, zero, suc, ◌+◌, ◌<◌, Bool, true, false, cond, List, [], ◌∷◌, ◌++◌, length, map, Some, slice_get, refl, ap, ◌∙◌, inl, inr, arith, length-append}
use Rattle.std.specs.Prelude.{slice_index}
use Rattle.std.specs.List.{filter, flat_map, range_with_len}
use Rattle.col_core.proofs.CallerLemmas.{In}
use Rattle.load_script.proofs.Counts.{total}
pub use Rattle.log_node.proofs.CallerLemmas.{get_range}

pub filter-append : {X : Type 0} (q : X → Bool) (xs ys : List X) → filter q (xs ++ ys) ≡ filter q xs ++ filter q ys
filter-append q [] ys = refl
filter-append {X} q (x ∷ xs) ys = at (q x) (filter-append q xs ys) where
  at : (b : Bool) → filter q (xs ++ ys) ≡ filter q xs ++ filter q ys
      → cond b (x ∷ filter q (xs ++ ys)) (filter q (xs ++ ys)) ≡ cond b (x ∷ filter q xs) (filter q xs) ++ filter q ys
  at true e = ap (λ (l : List X). x ∷ l) e
  at false e = e

pub filter_same : {X : Type 0} (p q : X → Bool) (xs : List X) → ((x : X) → In x xs → p x ≡ q x) → filter p xs ≡
    filter q xs
filter_same p q [] same = refl
filter_same {X} p q (x ∷ xs) same =
    ap (λ (b : Bool). cond b (x ∷ filter p xs) (filter p xs)) (same x (inl refl))
    ∙ ap (λ (l : List X). cond (q x) (x ∷ l) l) (filter_same p q xs (λ y i. same y (inr i)))

pub map_same : {X Y : Type 0} (f g : X → Y) (xs : List X) → ((x : X) → In x xs → f x ≡ g x) → map f xs ≡ map g xs
map_same f g [] same = refl
map_same {X} {Y} f g (x ∷ xs) same =
    ap (λ (y : Y). y ∷ map f xs) (same x (inl refl)) ∙ ap (λ (l : List Y). g x ∷ l)
    (map_same f g xs (λ y i. same y (inr i)))

pub map_twice : {X Y Z : Type 0} (f : Y → Z) (g : X → Y) (xs : List X) → map f (map g xs) ≡ map (λ x. f (g x)) xs
map_twice f g [] = refl
map_twice {X} {Y} {Z} f g (x ∷ xs) = ap (λ (l : List Z). f (g x) ∷ l) (map_twice f g xs)

-- a test passes as often as its answers are true
pub passed : {X : Type 0} (p : X → Bool) (xs : List X) → length (filter p xs) ≡ length (filter (λ b. b) (map p xs))
passed p [] = refl
passed p (x ∷ xs) = at (p x) (passed p xs) where
  at : (b : Bool) → length (filter p xs) ≡ length (filter (λ b. b) (map p xs))
      → length (cond b (x ∷ filter p xs) (filter p xs)) ≡ length
      (cond b (b ∷ filter (λ b. b) (map p xs)) (filter (λ b. b) (map p xs)))
  at true e = ap suc e
  at false e = e

front : (k : ℕ) (f : ℕ → ℕ) → total (suc k) f ≡ f 0 + total k (λ i. f (suc i))
unfolding total
front zero f = omega arith
front (suc k) f = let e = front k f in omega (arith, e)

-- what passes of the lists of some elements, by the places of these
pub by_place : {C X : Type 0} (q : X → Bool) (f : C → List X) (xs : List C) (g : ℕ → ℕ)
    → ((n : ℕ) (c : C) → slice_get xs n ≡ Some c → length (filter q (f c)) ≡ g n)
    → length (filter q (flat_map f xs)) ≡ total (length xs) g
unfolding total
by_place q f [] g same = refl
by_place {C} {X} q f (x ∷ xs) g same =
    let one = same 0 x refl in
    let rest = by_place q f xs (λ i. g (suc i)) (λ n c e. same (suc n) c e) in
    let both = ap length (filter-append q (f x) (flat_map f xs)) ∙ length-append (filter q (f x))
    (filter q (flat_map f xs)) in
    let all = front (length xs) g in
    omega (arith, one, rest, both, all)

pub none_pass : {X : Type 0} (p : X → Bool) (xs : List X) → ((x : X) → In x xs → p x ≡ false) → length (filter p xs) ≡ 0
none_pass p [] none = refl
none_pass {X} p (x ∷ xs) none =
    ap (λ (b : Bool). length (cond b (x ∷ filter p xs) (filter p xs))) (none x (inl refl))
    ∙ none_pass p xs (λ y i. none y (inr i))

pub index_range : (f : ℕ → ℕ) (a m n : ℕ) → n < m → slice_index (map f (range_with_len a m)) n ≡ f (a + n)
index_range f a zero n lt = absurd (let x : ⊥ = omega (arith, lt) in x)
index_range f a (suc m) zero lt = ap f (let e : a ≡ a + 0 = omega arith in e)
index_range f a (suc m) (suc n) lt =
    index_range f (a + 1) m n (omega (arith, lt)) ∙ ap f (let e : a + 1 + n ≡ a + suc n = omega arith in e)

pub length_mapped : {C X Y : Type 0} (f : C → List X) (g : C → X → Y) (xs : List C)
    → length (flat_map (λ c. map (g c) (f c)) xs) ≡ length (flat_map f xs)
length_mapped f g [] = refl
length_mapped {C} {X} {Y} f g (c ∷ xs) =
    let a = length-append (map (g c) (f c)) (flat_map (λ d. map (g d) (f d)) xs) in
    let b = length-append (f c) (flat_map f xs) in
    let m = mapped (f c) in
    let r = length_mapped f g xs in
    omega (arith, a, b, m, r) where
      mapped : (ys : List X) → length (map (g c) ys) ≡ length ys
      mapped [] = refl
      mapped (y ∷ ys) = ap suc (mapped ys)
