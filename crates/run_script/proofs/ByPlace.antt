-- Lists of which each item is known by its place.
use Rattle.std.proofs.Common.{◌≡◌, ℕ, zero, suc, ◌+◌, List, [], ◌∷◌, ◌++◌, length, map, Some, slice_get, refl, ap, ◌∙◌, arith}
use Rattle.std.specs.List.{All, enumerate_from, flat_map, range_with_len}
use Rattle.std.proofs.lemmas.List.{map-append}
use Rattle.std.proofs.lemmas.List.Elements.{All-append, All-nil}
pub use Rattle.log_node.proofs.CallerLemmas.{get_map_back as unmapped}
pub use Rattle.log_node.proofs.CallerLemmas.{get_map as mapped}

map_by_place : {A B : Type 0} (f : A → B) (g : ℕ → B) (a : ℕ) (xs : List A)
    → ((n : ℕ) (x : A) → slice_get xs n ≡ Some x → f x ≡ g (a + n)) → map f xs ≡ map g (range_with_len a (length xs))
map_by_place f g a [] same = refl
map_by_place {A} {B} f g a (x ∷ xs) same =
    let here : a + 0 ≡ a = omega arith in
    let first : f x ≡ g a = same 0 x refl ∙ ap g here in
    ap (λ (y : B). y ∷ map f xs) first
    ∙ ap (λ (ys : List B). g a ∷ ys)
    (map_by_place f g (a + 1) xs (λ n y at. same (suc n) y at ∙ ap g (let e : a + suc n ≡ a + 1 + n = omega arith in e)))

flat_by_place : {A B : Type 0} (f : A → List B) (g : ℕ → List B) (a : ℕ) (xs : List A)
    → ((n : ℕ) (x : A) → slice_get xs n ≡ Some x → f x ≡ g (a + n))
    → flat_map f xs ≡ flat_map g (range_with_len a (length xs))
flat_by_place f g a [] same = refl
flat_by_place {A} {B} f g a (x ∷ xs) same =
    let here : a + 0 ≡ a = omega arith in
    let first : f x ≡ g a = same 0 x refl ∙ ap g here in
    ap (λ (ys : List B). ys ++ flat_map f xs) first
    ∙ ap (λ (ys : List B). g a ++ ys)
    (flat_by_place f g (a + 1) xs (λ n y at. same (suc n) y at ∙ ap g (let e : a + suc n ≡ a + 1 + n = omega arith in e)))

-- the same from 0 on
pub map_numbered : {A B : Type 0} (f : A → B) (g : ℕ → B) (xs : List A)
    → ((n : ℕ) (x : A) → slice_get xs n ≡ Some x → f x ≡ g n) → map f xs ≡ map g (range_with_len 0 (length xs))
map_numbered f g xs same =
    map_by_place f g 0 xs (λ n x at. same n x at ∙ ap g (let e : n ≡ 0 + n = omega arith in e))

pub flat_numbered : {A B : Type 0} (f : A → List B) (g : ℕ → List B) (xs : List A)
    → ((n : ℕ) (x : A) → slice_get xs n ≡ Some x → f x ≡ g n) → flat_map f xs ≡ flat_map g (range_with_len 0 (length xs))
flat_numbered f g xs same =
    flat_by_place f g 0 xs (λ n x at. same n x at ∙ ap g (let e : n ≡ 0 + n = omega arith in e))

-- what holds of the items of each list
pub all_flat : {A B : Type 0} (P : B → Type 0) (f : A → List B) (xs : List A)
    → ((n : ℕ) (x : A) → slice_get xs n ≡ Some x → All P (f x)) → All P (flat_map f xs)
all_flat P f [] each = All-nil P
all_flat P f (x ∷ xs) each =
    All-append P (f x) (flat_map f xs) (each 0 x refl) (all_flat P f xs (λ n y at. each (suc n) y at))

pub map_flat : {A B C : Type 0} (g : B → C) (f : A → List B) (xs : List A)
    → map g (flat_map f xs) ≡ flat_map (λ x. map g (f x)) xs
map_flat g f [] = refl
map_flat g f (x ∷ xs) = map-append g (f x) (flat_map f xs) ∙ ap (λ l. map g (f x) ++ l) (map_flat g f xs)

-- EACH ITEM WITH ITS NUMBER

-- an item with its number
pub numbered_get : {A : Type 0} (a : ℕ) (xs : List A) (n : ℕ) (p : ℕ × A) → slice_get (enumerate_from a xs) n ≡ Some p
    → (p.0 ≡ a + n) × (slice_get xs n ≡ Some p.1)
numbered_get a [] n p at = absurd (let f : ⊥ = cc (at) in f)
numbered_get {A} a (x ∷ xs) zero p at =
    let is : (a, x) ≡ p = cc (at) in
    let number : a ≡ p.0 = ap (λ (q : ℕ × A). q.0) is in
    (omega (arith, number), ap (λ (q : ℕ × A). Some q.1) is)
numbered_get a (x ∷ xs) (suc n) p at =
    let r = numbered_get (a + 1) xs n p at in
    let number = r.0 in
    (omega (arith, number), r.1)

pub numbered_at : {A : Type 0} (a : ℕ) (xs : List A) (n : ℕ) (x : A) → slice_get xs n ≡ Some x
    → (p : ℕ × A) × (slice_get (enumerate_from a xs) n ≡ Some p) × (p.0 ≡ a + n) × (p.1 ≡ x)
numbered_at a [] n x at = absurd (let f : ⊥ = cc (at) in f)
numbered_at a (y ∷ xs) zero x at = ((a, y), refl, omega arith, cc (at))
numbered_at a (y ∷ xs) (suc n) x at =
    let r = numbered_at (a + 1) xs n x at in
    let number = r.2 in
    (r.0, r.1, omega (arith, number), r.3)

pub numbered_second : {A : Type 0} (a : ℕ) (xs : List A) → map (λ (p : ℕ × A). p.1) (enumerate_from a xs) ≡ xs
numbered_second a [] = refl
numbered_second a (x ∷ xs) = ap (λ l. x ∷ l) (numbered_second (a + 1) xs)
