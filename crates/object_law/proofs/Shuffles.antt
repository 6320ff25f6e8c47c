-- Lists with the same elements, in whatever order: what is kept of them, and what stands beside them.
use Rattle.std.proofs.Common.{ℕ, zero, suc, ◌<◌, Bool, List, [], ◌∷◌, length, get_or, set, inl, inr, arith}
use Rattle.std.specs.List.{AllZip, filter, swap}
use Rattle.std.specs.List.Sorted.{IsPermutation}
use Rattle.std.proofs.lemmas.Bool.{cases_Bool}
use Rattle.std.proofs.lemmas.List.Sorted.{IsPermutation-refl, IsPermutation-trans, IsPermutation-cons, IsPermutation-middle, IsPermutation-keeps}

-- A relation holds of a list and each permutation of it, if it goes on from list to list, under a head and over an exchange of
-- two heads.
module _ {X : Type 0} (R : List X → List X → Type 0) (same : (xs : List X) → R xs xs)
    (under : (x : X) (xs ys : List X) → R xs ys → R (x ∷ xs) (x ∷ ys))
    (turned : (x y : X) (xs : List X) → R (x ∷ y ∷ xs) (y ∷ x ∷ xs))
    (on : (xs ys zs : List X) → R xs ys → R ys zs → R xs zs) where
  to_head : (l : List X) (j : ℕ) (x d : X) → j < length l → R (x ∷ l) (get_or l j d ∷ set l j x)
  to_head [] j x d h = absurd (omega arith)
  to_head (y ∷ l) zero x d h = turned x y l
  to_head (y ∷ l) (suc j) x d h =
      on _ _ _ (turned x y l) (on _ _ _ (under y _ _ (to_head l j x d (omega arith))) (turned y (get_or l j d) (set l j x)))

  exchanged : (l : List X) (i j : ℕ) (d : X) → i < length l → j < length l
      → R l (set (set l i (get_or l j d)) j (get_or l i d))
  exchanged [] i j d p q = absurd (omega arith)
  exchanged (x ∷ l) zero zero d p q = same (x ∷ l)
  exchanged (x ∷ l) zero (suc j) d p q = to_head l j x d (omega arith)
  exchanged (x ∷ l) (suc i) zero d p q = to_head l i x d (omega arith)
  exchanged (x ∷ l) (suc i) (suc j) d p q = under x _ _ (exchanged l i j d (omega arith) (omega arith))

  swapped : (l : List X) (i j : ℕ) → i < length l → j < length l → R l (swap l i j)
  swapped [] i j p q = same []
  swapped (x ∷ l) i j p q = exchanged (x ∷ l) i j x p q

  pub along : (xs ys : List X) → IsPermutation xs ys → R xs ys
  along xs = IsPermutation-keeps xs (R xs) (same xs) (λ l i j p q h. on xs l _ h (swapped l i j p q))

-- those that pass a test
module _ {A : Type 0} (p : A → Bool) where
  under : (x : A) (xs ys : List A) → IsPermutation (filter p xs) (filter p ys)
      → IsPermutation (filter p (x ∷ xs)) (filter p (x ∷ ys))
  under x xs ys h = elim (cases_Bool (p x)) [
    | inl e ↦ rw e (IsPermutation-cons x (filter p xs) (filter p ys) h)
    | inr e ↦ rw e h
  ]

  turned : (x y : A) (xs : List A) → IsPermutation (filter p (x ∷ y ∷ xs)) (filter p (y ∷ x ∷ xs))
  turned x y xs = elim (cases_Bool (p x)) [
    | inl e ↦ elim (cases_Bool (p y)) [
      | inl f ↦ rw (e, f) (IsPermutation-middle (x ∷ []) y (filter p xs))
      | inr f ↦ rw (e, f) (IsPermutation-refl (x ∷ filter p xs))
    ]
    | inr e ↦ elim (cases_Bool (p y)) [
      | inl f ↦ rw (e, f) (IsPermutation-refl (y ∷ filter p xs))
      | inr f ↦ rw (e, f) (IsPermutation-refl (filter p xs))
    ]
  ]

  pub filtered : (xs ys : List A) → IsPermutation xs ys → IsPermutation (filter p xs) (filter p ys)
  filtered =
      along (λ xs ys. IsPermutation (filter p xs) (filter p ys)) (λ xs. IsPermutation-refl (filter p xs)) under turned
      (λ xs ys zs. IsPermutation-trans (filter p xs) (filter p ys) (filter p zs))

-- what stands beside them, in the other order
module _ {A B : Type 0} (Q : A → B → Type 0) where
  abbrev Moves : List A → List A → Type 0
  Moves xs ys = (ns : List B) → AllZip Q xs ns → (ms : List B) × AllZip Q ys ms × IsPermutation ns ms

  below : (x : A) (xs ys : List A) → Moves xs ys → Moves (x ∷ xs) (x ∷ ys)
  below x xs ys h [] a = absurd a
  below x xs ys h (n ∷ ns) a = let r = h ns a.1 in (n ∷ r.0, (a.0, r.1), IsPermutation-cons n ns r.0 r.2)

  crossed : (x y : A) (xs : List A) → Moves (x ∷ y ∷ xs) (y ∷ x ∷ xs)
  crossed x y xs [] a = absurd a
  crossed x y xs (n ∷ []) a = absurd a.1
  crossed x y xs (n ∷ m ∷ ns) a = (m ∷ n ∷ ns, (a.1.0, (a.0, a.1.1)), IsPermutation-middle (n ∷ []) m ns)

  pub beside_others : (xs ys : List A) → IsPermutation xs ys → Moves xs ys
  beside_others =
      along Moves (λ xs ns a. (ns, a, IsPermutation-refl ns)) below crossed
      (λ xs ys zs f g ns a. let r = f ns a in let q = g r.0 r.1 in (q.0, q.1, IsPermutation-trans ns r.0 q.0 r.2 q.2))
