-- What stands in a list, written as `In` or as `Contains`, and that entries among others are no more than those.
use Rattle.std.proofs.Common.{◌≡◌, ℕ, zero, suc, ◌<◌, ◌≤◌, List, [], ◌∷◌, ◌++◌, length, Some, get_or, true, refl}
use Rattle.std.proofs.Common.{subst, ap, sym, ◌∙◌, inl, inr, ◌⊎◌, arith}
use Rattle.std.specs.Prelude.{◌≢◌, slice_get, reverse}
use Rattle.std.specs.List.{Contains}
use Rattle.std.proofs.lemmas.List.{reverse-reverse}
use Rattle.log_node.specs.Order.{key_below}
use Rattle.log_node.specs.Standings.{Standing}
use Rattle.col_core.proofs.KeyOrder.{key-irrefl}
use Rattle.col_core.proofs.LawfulPasts.{reverse-cons}
use Rattle.col_core.proofs.Members.{In, Rises}

pub in_contains : {A : Type 0} (xs : List A) (x : A) → Contains xs x → In x xs
in_contains {A} xs x h = at xs h.0 h.1 h.2 where
  at : (ys : List A) (k : ℕ) → k < length ys → get_or ys k x ≡ x → In x ys
  at [] k lt e = absurd (let f : ⊥ = omega (arith, lt) in f)
  at (y ∷ ys) zero lt e = inl e
  at (y ∷ ys) (suc k) lt e = inr (at ys k (omega (arith, lt)) e)

pub contains_in : {A : Type 0} (xs : List A) (x : A) → In x xs → Contains xs x
contains_in [] x h = absurd h
contains_in {A} (y ∷ ys) x (inl e) = (0, omega arith, e)
contains_in {A} (y ∷ ys) x (inr h) = let r = contains_in ys x h in let lt = r.1 in (suc r.0, omega (arith, lt), r.2)

pub in_slice : {A : Type 0} (xs : List A) (x : A) → In x xs → (n : ℕ) × (slice_get xs n ≡ Some x)
in_slice [] x i = absurd i
in_slice {A} (y ∷ ys) x (inl e) = (0, ap (λ (z : A). Some z) e)
in_slice (y ∷ ys) x (inr i) = let r = in_slice ys x i in (suc r.0, r.1)

pub slice_in : {A : Type 0} (xs : List A) (n : ℕ) (x : A) → slice_get xs n ≡ Some x → In x xs
slice_in [] n x h = absurd (let y : ⊥ = cc in y)
slice_in (y ∷ ys) zero x h = inl (let z : y ≡ x = cc in z)
slice_in (y ∷ ys) (suc n) x h = inr (slice_in ys n x h)

pub in_append : {A : Type 0} (x : A) (xs ys : List A) → In x (xs ++ ys) → In x xs ⊎ In x ys
in_append x [] ys i = inr i
in_append x (y ∷ xs) ys (inl e) = inl (inl e)
in_append {A} x (y ∷ xs) ys (inr i) = turn (in_append x xs ys i) where
  turn : In x xs ⊎ In x ys → ((y ≡ x) ⊎ In x xs) ⊎ In x ys
  turn (inl j) = inl (inr j)
  turn (inr j) = inr j

pub in_left : {A : Type 0} (x : A) (xs ys : List A) → In x xs → In x (xs ++ ys)
in_left x [] ys i = absurd i
in_left x (y ∷ xs) ys (inl e) = inl e
in_left x (y ∷ xs) ys (inr i) = inr (in_left x xs ys i)

pub in_right : {A : Type 0} (x : A) (xs ys : List A) → In x ys → In x (xs ++ ys)
in_right x [] ys i = i
in_right x (y ∷ xs) ys i = inr (in_right x xs ys i)

pub in_reverse : {A : Type 0} (x : A) (xs : List A) → In x xs → In x (reverse xs)
in_reverse x [] i = absurd i
in_reverse {A} x (y ∷ xs) i =
    subst (λ (l : List A). In x l) (sym (reverse-cons y xs)) (turn i (λ j. in_reverse x xs j)) where
      turn : (y ≡ x) ⊎ In x xs → (In x xs → In x (reverse xs)) → In x (reverse xs ++ y ∷ [])
      turn (inl e) rest = in_right x (reverse xs) (y ∷ []) (inl e)
      turn (inr j) rest = in_left x (reverse xs) (y ∷ []) (rest j)

pub in_reversed : {A : Type 0} (x : A) (xs : List A) → In x (reverse xs) → In x xs
in_reversed {A} x xs i = subst (λ (l : List A). In x l) (reverse-reverse xs) (in_reverse x (reverse xs) i)

-- Of two lists of entries that of which all stand in the other has no more, where its entries rise in key

Without : Standing → List Standing → Type 0
Without e ys = (zs : List Standing) × (length ys ≡ suc (length zs))
    × ((x : Standing) → In x ys → x ≢ e → In x zs)

without : (e : Standing) (ys : List Standing) → In e ys → Without e ys
unfolding Without
without e [] i = absurd i
without e (y ∷ ys) (inl is) = (ys, refl, λ x j ne. turn x j ne) where
  turn : (x : Standing) → (y ≡ x) ⊎ In x ys → x ≢ e → In x ys
  turn x (inl f) ne = absurd (ne (sym f ∙ is))
  turn x (inr j) ne = j
without e (y ∷ ys) (inr i) =
    let r = without e ys i in
    let l = r.1 in
    (y ∷ r.0, ap suc l, λ x j ne. turn r.0 x j (λ k. r.2 x k ne)) where
      turn : (zs : List Standing) (x : Standing) → (y ≡ x) ⊎ In x ys → (In x ys → In x zs) → (y ≡ x) ⊎ In x zs
      turn zs x (inl f) rest = inl f
      turn zs x (inr j) rest = inr (rest j)

-- entries that rise in key are no more than those among which they are
pub fewer : (xs ys : List Standing) → Rises xs → ((x : Standing) → In x xs → In x ys) → length xs ≤ length ys
unfolding Rises Without
fewer [] ys r sub = omega arith
fewer (x ∷ xs) ys r sub =
    let z = without x ys (sub x (inl refl)) in
    let n = fewer xs z.0 r.1 (λ y i. z.2 y (sub y (inr i)) (λ e. key-irrefl x.key
    (subst (λ (k : Standing). key_below x.key k.key ≡ true) e (r.0 y i)))) in
    let l = z.1 in
    omega (arith, n, l)

pub fewer_less : (xs ys : List Standing) (e : Standing) → Rises xs → In e ys
    → ((x : Standing) → In x xs → In x ys × (x ≢ e)) → length xs < length ys
unfolding Without
fewer_less xs ys e r i sub =
    let z = without e ys i in
    let n = fewer xs z.0 r (λ x j. let s = sub x j in z.2 x s.0 s.1) in
    let l = z.1 in
    omega (arith, n, l)
