-- Items of lists by place, and how many of them pass a test.
use Rattle.std.proofs.Common.{◌≡◌, ◌≢◌, ℕ, zero, suc, ◌+◌, ◌<◌, ◌≤◌, List, [], ◌∷◌, ◌++◌, length, map, set, take, drop, Some, None, slice_get, Bool, true, false, cond, refl, ap, sym, subst, ◌∙◌, inl, inr, ◌⊎◌, arith}
use Rattle.std.specs.Prelude.{slice_index_or}
use Rattle.std.specs.List.{AllPairs, filter}
use Rattle.std.proofs.lemmas.Bool.{cases_order}
use Rattle.std.proofs.lemmas.Option.{same_Some, slice_get_within}
use mathlib.Core.List.{IsPrefix}
pub use Rattle.log_node.proofs.CallerLemmas.{get_map_back as unmapped}
pub use Rattle.log_node.proofs.CallerLemmas.{get_map as mapped}

module _ {A : Type 0} where
  -- an item that is there
  pub got : (xs : List A) (n : ℕ) → n < length xs → (x : A) × (slice_get xs n ≡ Some x)
  got [] n lt = absurd (let f : ⊥ = omega (arith, lt) in f)
  got (x ∷ xs) zero lt = (x, refl)
  got (x ∷ xs) (suc n) lt = got xs n (omega (arith, lt))

  -- there is one at a place
  pub same_items : (xs : List A) (n : ℕ) (x y : A) → slice_get xs n ≡ Some x → slice_get xs n ≡ Some y → x ≡ y
  same_items xs n x y e f = same_Some x y (sym e ∙ f)

  -- of items that all differ in this, two that do not are one
  pub same_one : {B : Type 0} (f : A → B) (xs : List A) → AllPairs (λ x y. f x ≢ f y) xs → (i j : ℕ) (x y : A)
      → slice_get xs i ≡ Some x → slice_get xs j ≡ Some y → f x ≡ f y → x ≡ y
  same_one f xs apart i j x y a b same = elim (cases_order i j) [
    | inl is ↦ same_items xs j x y (ap (slice_get xs) (sym is) ∙ a) b
    | inr (inl less) ↦ absurd (apart i j x less (slice_get_within xs j y b)
        (ap f (item xs i x x a) ∙ (same ∙ sym (ap f (item xs j y x b)))))
    | inr (inr more) ↦ absurd (apart j i x more (slice_get_within xs i x a)
        (ap f (item xs j y x b) ∙ (sym same ∙ sym (ap f (item xs i x x a)))))
  ] where
    item : (ys : List A) (n : ℕ) (z d : A) → slice_get ys n ≡ Some z → slice_index_or ys n d ≡ z
    item [] n z d e = absurd (let f : ⊥ = cc (e) in f)
    item (w ∷ ws) zero z d e = cc (e)
    item (w ∷ ws) (suc n) z d e = item ws n z d e

  pub got_last : (xs : List A) (x : A) → slice_get (xs ++ x ∷ []) (length xs) ≡ Some x
  got_last [] x = refl
  got_last (y ∷ xs) x = got_last xs x

  -- an item that was set, and the others
  pub set_here : (xs : List A) (i : ℕ) (x y : A) → slice_get xs i ≡ Some y → slice_get (set xs i x) i ≡ Some x
  set_here [] i x y e = absurd cc
  set_here (z ∷ xs) zero x y e = refl
  set_here (z ∷ xs) (suc i) x y e = set_here xs i x y e

  pub set_there : (xs : List A) (i k : ℕ) (x : A) → k ≢ i → slice_get (set xs i x) k ≡ slice_get xs k
  set_there [] i k x n = refl
  set_there (y ∷ xs) zero zero x n = absurd (n refl)
  set_there (y ∷ xs) zero (suc k) x n = refl
  set_there (y ∷ xs) (suc i) zero x n = refl
  set_there (y ∷ xs) (suc i) (suc k) x n = set_there xs i k x (λ e. n (ap suc e))

  -- an item behind the beginning
  pub got_behind : (xs more : List A) (n : ℕ) (x : A) → length xs ≤ n → slice_get (xs ++ more) n ≡ Some x
      → (m : ℕ) × (n ≡ length xs + m) × (slice_get more m ≡ Some x)
  got_behind [] more n x le e = (n, omega arith, e)
  got_behind (y ∷ xs) more zero x le e = absurd (let f : ⊥ = omega (arith, le) in f)
  got_behind (y ∷ xs) more (suc n) x le e =
      let r = got_behind xs more n x (omega (arith, le)) e in
      let is = r.1 in
      (r.0, omega (arith, is), r.2)

  -- an item of the beginning
  pub got_front : (xs more : List A) (n : ℕ) (x : A) → n < length xs → slice_get (xs ++ more) n ≡ Some x
      → slice_get xs n ≡ Some x
  got_front [] more n x lt e = absurd (let f : ⊥ = omega (arith, lt) in f)
  got_front (y ∷ xs) more zero x lt e = e
  got_front (y ∷ xs) more (suc n) x lt e = got_front xs more n x (omega (arith, lt)) e

  pub got_onward : (xs more : List A) (m : ℕ) (x : A) → slice_get more m ≡ Some x
      → slice_get (xs ++ more) (length xs + m) ≡ Some x
  got_onward [] more m x e = let is : m ≡ 0 + m = omega arith in subst (λ n. slice_get more n ≡ Some x) is e
  got_onward (y ∷ xs) more m x e =
      let is : suc (length xs + m) ≡ suc (length xs) + m = omega arith in
      subst (λ n. slice_get (y ∷ (xs ++ more)) n ≡ Some x) is (got_onward xs more m x e)

  -- an item of two lists that are joined
  pub got_split : (xs ys : List A) (n : ℕ) (x : A) → slice_get (xs ++ ys) n ≡ Some x
      → (slice_get xs n ≡ Some x) ⊎ ((m : ℕ) × (slice_get ys m ≡ Some x))
  got_split [] ys n x e = inr (n, e)
  got_split (y ∷ xs) ys zero x e = inl e
  got_split (y ∷ xs) ys (suc n) x e = got_split xs ys n x e

  pub got_end : (xs : List A) (x : A) (n : ℕ) (y : A) → slice_get (xs ++ x ∷ []) n ≡ Some y
      → (slice_get xs n ≡ Some y) ⊎ ((n ≡ length xs) × (x ≡ y))
  got_end [] x zero y e = inr (refl, cc (e))
  got_end [] x (suc n) y e = absurd (let f : ⊥ = cc (e) in f)
  got_end (z ∷ xs) x zero y e = inl e
  got_end (z ∷ xs) x (suc n) y e = elim (got_end xs x n y e) [
    | inl old ↦ inl old
    | inr last ↦ inr (ap suc last.0, last.1)
  ]

  -- an item of a beginning
  pub got_taken : (k : ℕ) (xs : List A) (n : ℕ) (x : A) → n < k → slice_get xs n ≡ Some x
      → slice_get (take k xs) n ≡ Some x
  got_taken zero xs n x lt e = absurd (let f : ⊥ = omega (arith, lt) in f)
  got_taken (suc k) [] n x lt e = absurd (let f : ⊥ = cc in f)
  got_taken (suc k) (y ∷ xs) zero x lt e = e
  got_taken (suc k) (y ∷ xs) (suc n) x lt e = got_taken k xs n x (omega (arith, lt)) e

  -- a list whose items stand at the same places of another begins it
  pub prefix_by : (xs ys : List A) → ((n : ℕ) (y : A) → slice_get ys n ≡ Some y → slice_get xs n ≡ Some y) → IsPrefix ys xs
  prefix_by xs [] each = (xs, refl)
  prefix_by [] (y ∷ ys) each = absurd (let e = each 0 y refl in let f : ⊥ = cc in f)
  prefix_by (x ∷ xs) (y ∷ ys) each =
      let e = each 0 y refl in
      let same : x ≡ y = same_Some x y e in
      let r = prefix_by xs ys (λ n z at. each (suc n) z at) in
      (r.0, (λ i. sym same i ∷ r.1 i))

  -- none passes, or just one
  pub none_pass : (test : A → Bool) (xs : List A)
      → ((n : ℕ) (x : A) → slice_get xs n ≡ Some x → test x ≡ true → ⊥) → filter test xs ≡ []
  none_pass test [] none = refl
  none_pass test (x ∷ xs) none =
      by_bool (test x) refl (none_pass test xs (λ n y at t. none (suc n) y at t)) where
        by_bool : (b : Bool) → test x ≡ b → filter test xs ≡ [] → cond b (x ∷ filter test xs) (filter test xs) ≡ []
        by_bool true t rest = absurd (none 0 x refl t)
        by_bool false t rest = rest

  pub one_passes : (test : A → Bool) (xs : List A) (n : ℕ) (x : A) → slice_get xs n ≡ Some x → test x ≡ true
      → ((i j : ℕ) (y z : A) → slice_get xs i ≡ Some y → slice_get xs j ≡ Some z → test y ≡ true → test z ≡ true → i ≡ j)
      → length (filter test xs) ≡ 1
  one_passes test [] n x at t once = absurd (let f : ⊥ = cc in f)
  one_passes test (y ∷ xs) zero x at t once =
      let same : y ≡ x = cc in
      let here : test y ≡ true = ap test same ∙ t in
      let rest : filter test xs ≡ [] =
      none_pass test xs (λ m z there s.
      absurd (let e = once 0 (suc m) y z refl there here s in let f : ⊥ = omega (arith, e) in f)) in
      ap (λ (b : Bool). length (cond b (y ∷ filter test xs) (filter test xs))) here
      ∙ ap (λ (l : List A). length (y ∷ l)) rest
  one_passes test (y ∷ xs) (suc n) x at t once =
      by_bool (test y) refl (one_passes test xs n x at t (λ i j a b p q s r.
      let e = once (suc i) (suc j) a b p q s r in let f : i ≡ j = omega (arith, e) in f)) where
        by_bool : (b : Bool) → test y ≡ b → length (filter test xs) ≡ 1
            → length (cond b (y ∷ filter test xs) (filter test xs)) ≡ 1
        by_bool true s rest =
            absurd (let e = once 0 (suc n) y x refl at s t in let f : ⊥ = omega (arith, e) in f)
        by_bool false s rest = rest

-- lists of one length have items at the same places
pub apart_lengths : {A B : Type 0} (xs : List A) (ys : List B) (n : ℕ) (y : B) → length ys ≡ length xs
    → slice_get xs n ≡ None → slice_get ys n ≡ Some y → ⊥
apart_lengths [] [] n y many none there = absurd (let f : ⊥ = cc in f)
apart_lengths [] (z ∷ ys) n y many none there = absurd (let f : ⊥ = omega (arith, many) in f)
apart_lengths (x ∷ xs) [] n y many none there = absurd (let f : ⊥ = omega (arith, many) in f)
apart_lengths (x ∷ xs) (z ∷ ys) zero y many none there = absurd (let f : ⊥ = cc in f)
apart_lengths (x ∷ xs) (z ∷ ys) (suc n) y many none there =
    apart_lengths xs ys n y (let e : length ys ≡ length xs = omega (arith, many) in e) none there
