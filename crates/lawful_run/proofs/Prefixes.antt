-- Beginnings of lists.
use Rattle.std.proofs.Common.{◌≡◌, ℕ, zero, suc, ◌<◌, ◌≤◌, List, [], ◌∷◌, ◌++◌, length, take, Some, slice_get, ap, sym, ◌∙◌, arith, length-append, append_assoc}
use Rattle.std.proofs.lemmas.List.{take-append-le}
use mathlib.Core.List.{IsPrefix, append-nil}

module _ {A : Type 0} where
  pub prefix_self : (xs : List A) → IsPrefix xs xs
  prefix_self xs = ([], append-nil xs)

  pub prefix_trans : (xs ys zs : List A) → IsPrefix xs ys → IsPrefix ys zs → IsPrefix xs zs
  prefix_trans xs ys zs p q = (p.0 ++ q.0, sym (append_assoc xs p.0 q.0) ∙ (ap (λ l. l ++ q.0) p.1 ∙ q.1))

  pub prefix_length : (xs ys : List A) → IsPrefix xs ys → length xs ≤ length ys
  prefix_length xs ys p = let e = ap length (sym p.1) ∙ length-append xs p.0 in omega arith

  pub get-append : (xs ys : List A) (k : ℕ) (x : A) → slice_get xs k ≡ Some x → slice_get (xs ++ ys) k ≡ Some x
  get-append [] ys k x e = absurd cc
  get-append (z ∷ xs) ys zero x e = e
  get-append (z ∷ xs) ys (suc k) x e = get-append xs ys k x e

  pub prefix_get : (xs ys : List A) (k : ℕ) (x : A) → IsPrefix xs ys → slice_get xs k ≡ Some x → slice_get ys k ≡ Some x
  prefix_get xs ys k x p e = ap (λ l. slice_get l k) (sym p.1) ∙ get-append xs p.0 k x e

  pub prefix_take : (xs ys : List A) (n : ℕ) → IsPrefix xs ys → n ≤ length xs → take n ys ≡ take n xs
  prefix_take xs ys n p l = ap (take n) (sym p.1) ∙ take-append-le n xs p.0 l

  -- a place that has an item is within the list
  pub get_within : (xs : List A) (k : ℕ) (x : A) → slice_get xs k ≡ Some x → k < length xs
  get_within [] k x e = absurd cc
  get_within (y ∷ xs) zero x e = omega arith
  get_within (y ∷ xs) (suc k) x e = let l = get_within xs k x e in omega (arith, l)
