-- Lists item by item, beside one another and in order.
use Rattle.std.proofs.Common.{◌≡◌, ◌⊎◌, inl, inr, ℕ, zero, suc, Bool, true, ◌||◌, List, [], ◌∷◌, map, take, refl, ap, sym, subst, ◌∙◌, arith}
use Rattle.std.specs.Prelude.{IsTrue}
use Rattle.std.specs.List.{AllPairs, AllZip, list_any}
use Rattle.std.proofs.lemmas.Bool.{or_cases}
use Rattle.std.proofs.lemmas.List.Kept.{AllPairs-cons}
use Rattle.log_node.specs.declared.ids.Key.{Key}
use Rattle.log_node.specs.Order.{key_below}
use Rattle.log_node.proofs.CallerLemmas.{key-irrefl, key-trans}
use Rattle.col_core.proofs.CallerLemmas.{all_in, contains_in, In, in_take}

-- BESIDE ONE ANOTHER

-- the first items are those that the second ones tell
pub zip_map : {A B : Type 0} (R : A → B → Type 0) (f : B → A) → ((x : A) (y : B) → R x y → f y ≡ x) → (xs : List A)
    (ys : List B) → AllZip R xs ys → map f ys ≡ xs
zip_map R f tell [] [] a = refl
zip_map R f tell [] (y ∷ ys) a = absurd a
zip_map R f tell (x ∷ xs) [] a = absurd a
zip_map {A} {B} R f tell (x ∷ xs) (y ∷ ys) a =
    ap (λ (z : A). z ∷ map f ys) (tell x y a.0) ∙ ap (λ (l : List A). x ∷ l) (zip_map R f tell xs ys a.1)

-- one for each item
pub zip_made : {A B : Type 0} (R : A → B → Type 0) (xs : List A) → ((x : A) → In x xs → (y : B) × R x y)
    → (ys : List B) × AllZip R xs ys
zip_made R [] f = ([], tt)
zip_made R (x ∷ xs) f =
    let one = f x (inl refl) in
    let rest = zip_made R xs (λ y i. f y (inr i)) in (one.0 ∷ rest.0, (one.1, rest.1))

-- what is beside images is beside items
pub zip_images : {A B C : Type 0} (R : B → C → Type 0) (f : A → B) (xs : List A) (ys : List C) → AllZip R (map f xs) ys
    → AllZip (λ x y. R (f x) y) xs ys
zip_images R f [] [] a = a
zip_images R f [] (y ∷ ys) a = a
zip_images R f (x ∷ xs) [] a = a
zip_images R f (x ∷ xs) (y ∷ ys) a = (a.0, zip_images R f xs ys a.1)

-- IN ORDER

pub head_pairs : {A : Type 0} (R : A → A → Type 0) (x : A) (xs : List A) → AllPairs R (x ∷ xs) → (y : A) → In y xs → R x y
head_pairs {A} R x xs p y i =
    let c = contains_in xs y i in
    let lt = c.1 in
    subst (λ (z : A). R x z) c.2 (p 0 (suc c.0) y (omega arith) (omega (arith, lt)))

pub tail_pairs : {A : Type 0} (R : A → A → Type 0) (x : A) (xs : List A) → AllPairs R (x ∷ xs) → AllPairs R xs
tail_pairs R x xs p = λ i j d lt within. p (suc i) (suc j) d (omega (arith, lt)) (omega (arith, within))

pub pairs_take : {A : Type 0} (R : A → A → Type 0) (n : ℕ) (xs : List A) → AllPairs R xs → AllPairs R (take n xs)
pairs_take R zero xs p = λ i j d lt within. absurd (let f : ⊥ = omega (arith, within) in f)
pairs_take R (suc n) [] p = p
pairs_take {A} R (suc n) (x ∷ xs) p =
    AllPairs-cons R x (take n xs) (all_in (R x) (take n xs) (λ y i. head_pairs R x xs p y (in_take n xs y i)))
    (pairs_take R n xs (tail_pairs R x xs p))

-- what is up to one of the first is among the first
pub in_first : (n : ℕ) (xs : List Key) (key last : Key) → AllPairs (λ a b. IsTrue (key_below a b)) xs → In key xs
    → In last (take n xs) → (key ≡ last) ⊎ IsTrue (key_below key last) → In key (take n xs)
in_first zero xs key last p i j upto = absurd j
in_first (suc n) [] key last p i j upto = absurd j
in_first (suc n) (x ∷ xs) key last p (inl e) j upto = inl e
in_first (suc n) (x ∷ xs) key last p (inr i) (inr j) upto =
    inr (in_first n xs key last (tail_pairs (λ a b. IsTrue (key_below a b)) x xs p) i j upto)
in_first (suc n) (x ∷ xs) key last p (inr i) (inl e) upto =
    let above : key_below x key ≡ true = head_pairs (λ a b. IsTrue (key_below a b)) x xs p key i in
    absurd (elim upto [
      | inl same ↦ key-irrefl x (subst (λ (k : Key). key_below x k ≡ true) (same ∙ sym e) above)
      | inr below ↦ key-irrefl x (key-trans x key x above (subst (λ (k : Key). key_below key k ≡ true) (sym e) below))
    ])

-- an item that passes
pub in_any : {A : Type 0} (test : A → Bool) (xs : List A) → list_any test xs ≡ true → (x : A) × In x xs × (test x ≡ true)
in_any test [] e = absurd (let f : ⊥ = cc in f)
in_any test (x ∷ xs) e = elim (or_cases (test x) (list_any test xs) e) [
  | inl here ↦ (x, inl refl, here)
  | inr later ↦ (let r = in_any test xs later in (r.0, inr r.1, r.2))
]

pub any_map : {A B : Type 0} (test : B → Bool) (f : A → B) (xs : List A)
    → list_any test (map f xs) ≡ list_any (λ x. test (f x)) xs
any_map test f [] = refl
any_map test f (x ∷ xs) = ap (λ (b : Bool). test (f x) || b) (any_map test f xs)
