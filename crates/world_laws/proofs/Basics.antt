-- Functions with another value at one place, and what stands in a list.
use Rattle.std.proofs.Common.{◌≡◌, ℕ, zero, suc, ◌<◌, List, [], ◌∷◌, ◌++◌, length, get_or, Some, true, false, refl, subst, ap, sym, ◌∙◌, inl, inr, ◌⊎◌, arith}
use Rattle.std.specs.Prelude.{◌==◌, ◌&&◌, ◌≢◌, reverse, slice_get}
use Rattle.std.specs.List.{Contains}
use Rattle.std.proofs.lemmas.Bool.{eqb-true, eq-eqb, false_from_ne_true}
use Rattle.log_node.specs.declared.ids.Id.{Id}
use Rattle.log_node.specs.Order.{same_id}
use Rattle.col_core.specs.Keeping.{updated, updated_at}
use Rattle.col_core.proofs.CallerLemmas.{choice, if_true, apart, same_id-true, same_id-is, In}
pub use Rattle.col_core.proofs.CallerLemmas.{contains_in, in_append, in_contains, in_left, in_reverse, in_right, in_slice}
pub use Rattle.col_core.proofs.CallerLemmas.{slice_in}
pub use Rattle.log_node.proofs.CallerLemmas.{get_last as slice_last}

-- a fact of a changed function at any place
pub at_updated : {A : Type 0} (P : A → Type 0) (f : ℕ → A) (n : ℕ) (x : A) (m : ℕ) → (m ≡ n → P x)
    → ((m == n) ≡ false → P (f m)) → P (updated f n x m)
at_updated P f n x m here there = choice P (m == n) x (f m) (λ t. here (eqb-true m n t)) there

pub updated-here : {A : Type 0} (f : ℕ → A) (n : ℕ) (x : A) → updated f n x n ≡ x
updated-here f n x = if_true (n == n) x (f n) (eq-eqb n n refl)

pub at_updated_at : {A : Type 0} (P : A → Type 0) (f : ℕ → ℕ → A) (a n : ℕ) (x : A) (b m : ℕ) → (b ≡ a → m ≡ n → P x)
    → (((b == a) && (m == n)) ≡ false → P (f b m)) → P (updated_at f a n x b m)
at_updated_at {A} P f a n x b m here there =
    choice (λ (g : ℕ → A). P (g m)) (b == a) (updated (f a) n x) (f b)
    (λ t. let e = eqb-true b a t in
    choice P (m == n) x (f a m) (λ s. here e (eqb-true m n s))
    (λ s. subst (λ k. P (f k m)) e (there (ap (λ y. y && (m == n)) t ∙ s))))
    (λ t. there (ap (λ y. y && (m == n)) t))

pub updated_at-here : {A : Type 0} (f : ℕ → ℕ → A) (a n : ℕ) (x : A) → updated_at f a n x a n ≡ x
updated_at-here f a n x =
    at_updated_at (λ y. y ≡ x) f a n x a n (λ _ _. refl)
    (λ other. absurd (apart ((a == a) && (n == n)) (both_same a n) other)) where
      both_same : (a n : ℕ) → ((a == a) && (n == n)) ≡ true
      both_same a n = rw (eq-eqb a a refl, eq-eqb n n refl) refl

-- at another place it is as before
pub updated_at-not : {A : Type 0} (f : ℕ → ℕ → A) (a n : ℕ) (x : A) (b m : ℕ) → (b ≡ a → m ≡ n → ⊥)
    → updated_at f a n x b m ≡ f b m
updated_at-not f a n x b m ne = at_updated_at (λ y. y ≡ f b m) f a n x b m (λ e g. absurd (ne e g)) (λ _. refl)

-- two places are one, or not
pub not_place : (a n b m : ℕ) → ((b == a) && (m == n)) ≡ false → b ≡ a → m ≡ n → ⊥
not_place a n b m other e g = apart ((b == a) && (m == n)) (rw (eq-eqb b a e, eq-eqb m n g) refl) other

pub not_same : (a b : Id) → a ≢ b → same_id a b ≡ false
not_same a b ne = false_from_ne_true (same_id a b) (λ t. ne (same_id-true a b t))

pub differ : (a b : Id) → same_id a b ≡ false → a ≢ b
differ a b f e = apart (same_id a b) (same_id-is a b e) f

-- What stands in a list

pub in_last : {A : Type 0} (x : A) (xs : List A) (y : A) → In x (xs ++ y ∷ []) → In x xs ⊎ (y ≡ x)
in_last {A} x xs y i = turn (in_append x xs (y ∷ []) i) where
  turn : In x xs ⊎ ((y ≡ x) ⊎ ⊥) → In x xs ⊎ (y ≡ x)
  turn (inl j) = inl j
  turn (inr (inl e)) = inr e
  turn (inr (inr f)) = absurd f
