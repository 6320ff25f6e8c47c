-- Beginnings of lists, items by place, and functions with another value at one number.
use Rattle.std.proofs.Common.{◌≡◌, ℕ, zero, suc, ◌+◌, ◌<◌, ◌≤◌, List, [], ◌∷◌, ◌++◌, length, drop, Some, slice_get, refl, ap, sym, subst, ◌∙◌, inl, inr, ◌⊎◌, arith, append_assoc, append-nil}
use Rattle.std.specs.Prelude.{◌==◌, ◌≢◌, Bool, true, false}
use Rattle.std.proofs.lemmas.Bool.{eqb-true, eq-eqb}
use mathlib.Core.List.{IsPrefix}
use Rattle.col_core.specs.Keeping.{updated, updated_at}
use Rattle.col_core.proofs.CallerLemmas.{choice}
pub use Rattle.log_node.proofs.CallerLemmas.{get_map_back as image_at}
pub use Rattle.log_node.proofs.CallerLemmas.{get_map as map_at}

module _ {A : Type 0} where
  pub prefix_self : (xs : List A) → IsPrefix xs xs
  prefix_self xs = ([], append-nil xs)

  pub prefix_trans : (xs ys zs : List A) → IsPrefix xs ys → IsPrefix ys zs → IsPrefix xs zs
  prefix_trans xs ys zs p q = (p.0 ++ q.0, sym (append_assoc xs p.0 q.0) ∙ (ap (λ l. l ++ q.0) p.1 ∙ q.1))

  pub nil_of : (xs : List A) → length xs ≡ 0 → xs ≡ []
  nil_of [] e = refl
  nil_of (x ∷ xs) e = absurd (let f : ⊥ = omega (arith, e) in f)

  -- an item that is there
  pub get_there : (xs : List A) (i : ℕ) → i < length xs → (x : A) × (slice_get xs i ≡ Some x)
  get_there [] i lt = absurd (let f : ⊥ = omega (arith, lt) in f)
  get_there (x ∷ xs) zero lt = (x, refl)
  get_there (x ∷ xs) (suc i) lt = get_there xs i (omega (arith, lt))

  -- an item of a list that is within its beginning
  pub get_front : (xs more : List A) (i : ℕ) (x : A) → i < length xs → slice_get (xs ++ more) i ≡ Some x
      → slice_get xs i ≡ Some x
  get_front [] more i x lt e = absurd (let f : ⊥ = omega (arith, lt) in f)
  get_front (y ∷ xs) more zero x lt e = e
  get_front (y ∷ xs) more (suc i) x lt e = get_front xs more i x (omega (arith, lt)) e

  pub prefix_back : (xs ys : List A) (i : ℕ) (x : A) → IsPrefix xs ys → i < length xs → slice_get ys i ≡ Some x
      → slice_get xs i ≡ Some x
  prefix_back xs ys i x p lt e = get_front xs p.0 i x lt (ap (λ l. slice_get l i) p.1 ∙ e)

  -- an item of a list that is behind its beginning
  pub get_behind : (xs more : List A) (i : ℕ) (x : A) → length xs ≤ i → slice_get (xs ++ more) i ≡ Some x
      → (j : ℕ) × (i ≡ length xs + j) × (slice_get more j ≡ Some x)
  get_behind [] more i x le e = (i, omega arith, e)
  get_behind (y ∷ xs) more zero x le e = absurd (let f : ⊥ = omega (arith, le) in f)
  get_behind (y ∷ xs) more (suc i) x le e =
      let r = get_behind xs more i x (omega (arith, le)) e in
      let is = r.1 in
      (r.0, omega (arith, is), r.2)

  pub get_onward : (xs more : List A) (j : ℕ) (x : A) → slice_get more j ≡ Some x
      → slice_get (xs ++ more) (length xs + j) ≡ Some x
  get_onward [] more j x e = let is : j ≡ 0 + j = omega arith in subst (λ n. slice_get more n ≡ Some x) is e
  get_onward (y ∷ xs) more j x e =
      let is : suc (length xs + j) ≡ suc (length xs) + j = omega arith in
      subst (λ n. slice_get (y ∷ (xs ++ more)) n ≡ Some x) is (get_onward xs more j x e)

-- at another value
pub at_new : {A : Type 0} (P : A → Type 0) (f : ℕ → A) (n : ℕ) (x : A) (m : ℕ) → (m ≡ n → P x)
    → (m ≢ n → P (f m)) → P (updated f n x m)
at_new P f n x m here there =
    choice P (m == n) x (f m) (λ t. here (eqb-true m n t))
    (λ f. there (λ e. apart_from (m == n) (eq-eqb m n e) f)) where
      apart_from : (b : Bool) → b ≡ true → b ≡ false → ⊥
      apart_from true t f = cc
      apart_from false t f = cc

-- at another value of a column
pub at_new_at : {A : Type 0} (P : A → Type 0) (f : ℕ → ℕ → A) (a n : ℕ) (x : A) (b m : ℕ) → (b ≡ a → m ≡ n → P x)
    → ((b ≢ a) ⊎ (m ≢ n) → P (f b m)) → P (updated_at f a n x b m)
at_new_at {A} P f a n x b m here there =
    at_new (λ (g : ℕ → A). P (g m)) f a (updated (f a) n x) b
    (λ e. at_new P (f a) n x m (here e) (λ ne. subst (λ (r : ℕ). P (f r m)) e (there (inr ne)))) (λ ne. there (inl ne))
