-- Plain facts of what is in a list, for all crates above.
use Rattle.std.proofs.Common.{◌≡◌, ℕ, zero, suc, ◌+◌, ◌<◌, ◌≤◌, ◌∙◌, List, [], ◌∷◌, Bool, true, ap, sym, subst, refl, inl, inr, map, take, drop, flat_map, arith}
use Rattle.col_core.proofs.Members.{In}
use Rattle.col_core.proofs.Elements.{in_append, in_left, in_right}
use Rattle.std.specs.List.{All, list_any, range_with_len}
use Rattle.std.proofs.lemmas.Bool.{cases_lt, or_left, or_right}
use Rattle.std.proofs.lemmas.List.{take-append-drop}
use Rattle.std.proofs.lemmas.List.Elements.{All-cons, All-nil}

-- a number of a range
pub range_has : (a n x : ℕ) → a ≤ x → x < a + n → In x (range_with_len a n)
range_has a zero x le lt = absurd (let f : ⊥ = omega (arith, le, lt) in f)
range_has a (suc n) x le lt = elim (cases_lt a x) [
  | inl l ↦ inr (range_has (a + 1) n x (omega (arith, l)) (omega (arith, lt)))
  | inr g ↦ inl (omega (arith, le, g))
]

-- an item of one of the lists is one of all
pub in_flat_map-back : {A B : Type 0} (f : A → List B) (xs : List A) (x : A) (y : B) → In x xs → In y (f x) → In y (flat_map f xs)
in_flat_map-back f [] x y i j = absurd i
in_flat_map-back {A} f (z ∷ xs) x y (inl e) j =
    in_left y (f z) (flat_map f xs) (subst (λ (k : A). In y (f k)) (sym e) j)
in_flat_map-back f (z ∷ xs) x y (inr i) j = in_right y (f z) (flat_map f xs) (in_flat_map-back f xs x y i j)

-- what is among the first is among all
pub in_take : {A : Type 0} (n : ℕ) (xs : List A) (x : A) → In x (take n xs) → In x xs
in_take {A} n xs x i = subst (λ (l : List A). In x l) (take-append-drop n xs) (in_left x (take n xs) (drop n xs) i)

-- the image of an item
pub in_map-back : {A B : Type 0} (f : A → B) (xs : List A) (x : A) → In x xs → In (f x) (map f xs)
in_map-back f [] x i = absurd i
in_map-back f (y ∷ xs) x (inl e) = inl (ap f e)
in_map-back f (y ∷ xs) x (inr i) = inr (in_map-back f xs x i)

-- an item of a mapped list is an image
pub in_map : {A B : Type 0} (f : A → B) (xs : List A) (y : B) → In y (map f xs) → (x : A) × In x xs × (f x ≡ y)
in_map f [] y i = absurd i
in_map f (x ∷ xs) y (inl e) = (x, inl refl, e)
in_map f (x ∷ xs) y (inr i) = let r = in_map f xs y i in (r.0, inr r.1, r.2)

-- between its ends
pub in_range : (a k n : ℕ) → In n (range_with_len a k) → (a ≤ n) × (n < a + k)
in_range a zero n i = absurd i
in_range a (suc k) n (inl e) = (omega (arith, e), omega (arith, e))
in_range a (suc k) n (inr i) =
    let r = in_range (a + 1) k n i in let x = r.0 in let y = r.1 in (omega (arith, x), omega (arith, y))

-- one passes, so some do
pub any_in : {A : Type 0} (test : A → Bool) (xs : List A) (x : A) → In x xs → test x ≡ true → list_any test xs ≡ true
any_in test [] x i t = absurd i
any_in test (y ∷ xs) x (inl e) t = or_left (test y) _ (ap test e ∙ t)
any_in test (y ∷ xs) x (inr i) t = or_right (test y) _ (any_in test xs x i t)

-- and of which list it is one
pub in_flat_map : {A B : Type 0} (f : A → List B) (xs : List A) (y : B) → In y (flat_map f xs)
    → (x : A) × In x xs × In y (f x)
in_flat_map f [] y i = absurd i
in_flat_map {A} {B} f (z ∷ xs) y i = elim (in_append y (f z) (flat_map f xs) i) [
  | inl here ↦ (z, inl refl, here)
  | inr later ↦ (let r = in_flat_map f xs y later in (r.0, inr r.1, r.2))
]

-- what holds of each item
pub all_in : {X : Type 0} (P : X → Type 0) (xs : List X) → ((x : X) → In x xs → P x) → All P xs
all_in P [] f = All-nil P
all_in P (x ∷ xs) f = All-cons P x xs (f x (inl refl)) (all_in P xs (λ y i. f y (inr i)))
