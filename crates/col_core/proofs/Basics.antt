-- Choices, and the test that two ids are one.
use Rattle.std.proofs.Common.{◌≡◌, ℕ, Bool, true, false, cond, refl, subst, ap, sym, ◌∙◌}
use Rattle.std.specs.Prelude.{◌==◌, ◌&&◌, not}
use Rattle.std.proofs.lemmas.Bool.{eqb-true, eq-eqb, and_parts, true≢false}
use Rattle.log_node.specs.declared.ids.Id.{Id}
use Rattle.log_node.specs.Order.{same_id}

-- a fact of a choice is one of each branch
pub choice : {A : Type 0} (P : A → Type 0) (b : Bool) (x y : A) → (b ≡ true → P x) → (b ≡ false → P y) → P (cond b x y)
choice P true x y f g = f refl
choice P false x y f g = g refl

pub by_test : (P : Type 0) (b : Bool) → (b ≡ true → P) → (b ≡ false → P) → P
by_test P true f g = f refl
by_test P false f g = g refl

pub if_true : {A : Type 0} (b : Bool) (x y : A) → b ≡ true → cond b x y ≡ x
if_true b x y e = ap (λ t. cond t x y) e

pub if_false : {A : Type 0} (b : Bool) (x y : A) → b ≡ false → cond b x y ≡ y
if_false b x y e = ap (λ t. cond t x y) e

pub both : (a b : Bool) → (a && b) ≡ true → (a ≡ true) × (b ≡ true)
both = and_parts

pub not_true : (b : Bool) → not b ≡ true → b ≡ false
not_true true e = absurd (true≢false (sym e))
not_true false e = refl

pub apart : (b : Bool) → b ≡ true → b ≡ false → ⊥
apart b t f = true≢false (sym t ∙ f)

pub same_id-refl : (a : Id) → same_id a a ≡ true
same_id-refl a = rw (eq-eqb a.client a.client refl, eq-eqb a.count a.count refl) refl

pub same_id-true : (a b : Id) → same_id a b ≡ true → a ≡ b
same_id-true a b e =
    let p = both (a.client == b.client) (a.count == b.count) e in
    let c = eqb-true a.client b.client p.0 in
    let n = eqb-true a.count b.count p.1 in
    (ap (λ (x : ℕ). record_of x a.count) c) ∙ (ap (λ (x : ℕ). record_of b.client x) n) where
      record_of : ℕ → ℕ → Id
      record_of x y = record { client = x; count = y }

pub same_id-is : (a b : Id) → a ≡ b → same_id a b ≡ true
same_id-is a b e = subst (λ (x : Id). same_id a x ≡ true) e (same_id-refl a)

pub same_id-sym : (a b : Id) → same_id a b ≡ false → same_id b a ≡ false
same_id-sym a b e = by_test (same_id b a ≡ false) (same_id b a) (λ t. absurd (apart (same_id a b) (same_id-is a b (sym (same_id-true b a t))) e)) (λ f. f)
