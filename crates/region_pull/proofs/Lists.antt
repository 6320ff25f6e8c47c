-- Places of lists, of their beginnings and ends, and of what stands before others.
use Rattle.std.proofs.Common.{◌≡◌, ℕ, zero, suc, ◌+◌, ◌<◌, ◌≤◌, List, [], ◌∷◌, ◌++◌, length, take, drop, Some, refl, ap, sym, subst, ◌∙◌, inl, inr, ◌⊎◌, arith, length-append, append_assoc, append-nil}
use Rattle.std.specs.Prelude.{slice_get}
use Rattle.std.proofs.lemmas.List.{take-append-le}
use mathlib.Core.List.{IsPrefix}
use Rattle.col_core.proofs.CallerLemmas.{slice_longer}
pub use Rattle.log_node.proofs.CallerLemmas.{get_map_back as got_mapped}

module _ {A : Type 0} where
  pub prefix_same : (xs : List A) → IsPrefix xs xs
  prefix_same xs = ([], append-nil xs)

  pub prefix_then : (xs ys zs : List A) → IsPrefix xs ys → IsPrefix ys zs → IsPrefix xs zs
  prefix_then xs ys zs p q =
      (p.0 ++ q.0, sym (append_assoc xs p.0 q.0) ∙ (ap (λ (l : List A). l ++ q.0) p.1 ∙ q.1))

  pub prefix_long : (xs ys : List A) → IsPrefix xs ys → length xs ≤ length ys
  prefix_long xs ys p = let a = length-append xs p.0 in let b = ap length p.1 in omega (arith, a, b)

  pub prefix_get : (xs ys : List A) → IsPrefix xs ys → (n : ℕ) (x : A) → slice_get xs n ≡ Some x
      → slice_get ys n ≡ Some x
  prefix_get xs ys p n x e = subst (λ (l : List A). slice_get l n ≡ Some x) p.1 (slice_longer xs p.0 n x e)

  pub prefix_take : (xs ys : List A) → IsPrefix xs ys → (n : ℕ) → n ≤ length xs → take n ys ≡ take n xs
  prefix_take xs ys p n le = ap (take n) (sym p.1) ∙ take-append-le n xs p.0 le

  -- all that stood before the last
  pub take_front : (xs ys : List A) → take (length xs) (xs ++ ys) ≡ xs
  take_front [] ys = refl
  take_front (x ∷ xs) ys = ap (λ (l : List A). x ∷ l) (take_front xs ys)

  pub taken_prefix : (n : ℕ) (xs : List A) → IsPrefix (take n xs) xs
  taken_prefix zero xs = (xs, refl)
  taken_prefix (suc n) [] = ([], refl)
  taken_prefix (suc n) (x ∷ xs) = let r = taken_prefix n xs in (r.0, ap (λ (l : List A). x ∷ l) r.1)

  pub get_last : (xs : List A) (x : A) → slice_get (xs ++ x ∷ []) (length xs) ≡ Some x
  get_last [] x = refl
  get_last (y ∷ xs) x = get_last xs x

  -- a place of a list with one more at its end is an old one or the last
  pub get_cases : (xs : List A) (x : A) (n : ℕ) (y : A) → slice_get (xs ++ x ∷ []) n ≡ Some y
      → (slice_get xs n ≡ Some y) ⊎ ((n ≡ length xs) × (x ≡ y))
  get_cases [] x zero y e = inr (refl, cc (e))
  get_cases [] x (suc n) y e = absurd (let f : ⊥ = cc (e) in f)
  get_cases (z ∷ xs) x zero y e = inl e
  get_cases (z ∷ xs) x (suc n) y e = elim (get_cases xs x n y e) [
    | inl old ↦ inl old
    | inr last ↦ inr (ap suc last.0, last.1)
  ]

  pub get_split : (xs ys : List A) (n : ℕ) (y : A) → slice_get (xs ++ ys) n ≡ Some y
      → (slice_get xs n ≡ Some y) ⊎ ((m : ℕ) × (slice_get ys m ≡ Some y))
  get_split [] ys n y e = inr (n, e)
  get_split (z ∷ xs) ys zero y e = inl e
  get_split (z ∷ xs) ys (suc n) y e = get_split xs ys n y e

  pub get_within : (xs : List A) (n : ℕ) → n < length xs → (x : A) × (slice_get xs n ≡ Some x)
  get_within [] n lt = absurd (let f : ⊥ = omega (arith, lt) in f)
  get_within (x ∷ xs) zero lt = (x, refl)
  get_within (x ∷ xs) (suc n) lt = get_within xs n (omega (arith, lt))

  pub get_dropped : (k : ℕ) (xs : List A) (n : ℕ) → slice_get (drop k xs) n ≡ slice_get xs (k + n)
  get_dropped zero xs n = let e : n ≡ 0 + n = omega arith in ap (slice_get xs) e
  get_dropped (suc k) [] n = refl
  get_dropped (suc k) (x ∷ xs) n =
      let e : suc (k + n) ≡ suc k + n = omega arith in get_dropped k xs n ∙ ap (slice_get (x ∷ xs)) e

  pub get_taken : (k : ℕ) (xs : List A) (n : ℕ) (x : A) → slice_get (take k xs) n ≡ Some x → slice_get xs n ≡ Some x
  get_taken zero xs n x e = absurd (let f : ⊥ = cc (e) in f)
  get_taken (suc k) [] n x e = absurd (let f : ⊥ = cc (e) in f)
  get_taken (suc k) (y ∷ xs) zero x e = e
  get_taken (suc k) (y ∷ xs) (suc n) x e = get_taken k xs n x e
