-- Vectors with one more at a region, and positions of lists with one more at the end.
use Rattle.std.proofs.Common.{◌≡◌, ℕ, zero, suc, ◌+◌, ◌<◌, ◌≤◌, List, [], ◌∷◌, ◌++◌, length, Some, None, Bool, true}
use Rattle.std.proofs.Common.{false, cond, refl, subst, ap, sym, ◌∙◌, inl, inr, ◌⊎◌, arith}
use Rattle.std.specs.Prelude.{slice_get, ◌==◌}
use Rattle.std.proofs.lemmas.Bool.{eq-eqb, ne_eqb, cases_eq, cond-true, cond-false}
use Rattle.log_node.specs.declared.ids.Counts.{Counts}
use Rattle.log_node.specs.Vectors.{at, zeros, one_more}
use Rattle.log_node.proofs.CallerLemmas.{at-one_more}
use Rattle.col_core.specs.PlayOrder.{Place}
pub use Rattle.log_node.proofs.CallerLemmas.{same_tests as iff}
pub use Rattle.log_node.proofs.CallerLemmas.{get_last as last_at}

-- one more at a region, and the same at the others

abbrev More : Counts → ℕ → Counts → Type 0
More v region w = (r : ℕ) → r < 4 → at w r ≡ cond (r == region) (at v r + 1) (at v r)

pub more_here : (v : Counts) (region : ℕ) → region < 4 → at (one_more v region) region ≡ at v region + 1
more_here v region lt = at-one_more v region region lt ∙ cond-true (region == region) _ _ (eq-eqb region region refl)

pub more_there : (v : Counts) (region r : ℕ) → r < 4 → (r ≡ region → ⊥) → at (one_more v region) r ≡ at v r
more_there v region r lt ne = at-one_more v region r lt ∙ cond-false (r == region) _ _ (ne_eqb r region ne)

pub no_less : (v : Counts) (region r : ℕ) → r < 4 → at v r ≤ at (one_more v region) r
no_less v region r lt = pick (cases_eq r region) where
  pick : (r ≡ region) ⊎ (r ≡ region → ⊥) → at v r ≤ at (one_more v region) r
  pick (inl e) = subst (λ s. at v s ≤ at (one_more v region) s) (sym e)
      (let m = more_here v region (subst (λ s. s < 4) e lt) in omega (arith, m))
  pick (inr ne) = let m = more_there v region r lt ne in omega (arith, m)

pub zero_at : (r : ℕ) → r < 4 → at zeros r ≡ 0
zero_at zero h = refl
zero_at (suc zero) h = refl
zero_at (suc (suc zero)) h = refl
zero_at (suc (suc (suc zero))) h = refl
zero_at (suc (suc (suc (suc r)))) h = absurd (let f : ⊥ = omega (arith, h) in f)

-- an item of a list with one more at its end
pub more_at : {A : Type 0} (P : Type 0) (xs : List A) (x y : A) (i : ℕ) → slice_get (xs ++ x ∷ []) i ≡ Some y
    → (slice_get xs i ≡ Some y → P) → (i ≡ length xs → x ≡ y → P) → P
more_at P [] x y zero h old new = new refl (let e : Some x ≡ Some y = h in cc)
more_at P [] x y (suc i) h old new = absurd (let e : None ≡ Some y = h in let f : ⊥ = cc in f)
more_at P (z ∷ zs) x y zero h old new = old h
more_at P (z ∷ zs) x y (suc i) h old new = more_at P zs x y i h old (λ e. new (ap suc e))

pub longer : {A : Type 0} (xs : List A) (x y : A) (i : ℕ) → slice_get xs i ≡ Some y → slice_get (xs ++ x ∷ []) i
    ≡ Some y
longer [] x y i h = absurd (let f : ⊥ = cc in f)
longer (z ∷ zs) x y zero h = h
longer (z ∷ zs) x y (suc i) h = longer zs x y i h

pub shorter : {A : Type 0} (xs : List A) (x y : A) (i : ℕ) → slice_get (xs ++ x ∷ []) i ≡ Some y → i < length xs
    → slice_get xs i ≡ Some y
shorter xs x y i h lt = more_at _ xs x y i h (λ o. o) (λ e is. absurd (let f : ⊥ = omega (arith, e, lt) in f))

pub same_places : (p q : Place) → p.region ≡ q.region → p.position ≡ q.position → p ≡ q
same_places p q e f = ap (λ r. place_of r p.position) e ∙ ap (λ n. place_of q.region n) f where
  place_of : ℕ → ℕ → Place
  place_of r n = record { region = r; position = n }
