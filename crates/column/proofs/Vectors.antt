-- Vectors of one number for each region, by the own region and the others.
use Rattle.std.proofs.Common.{◌≡◌, ◌≢◌, ◌⊎◌, inl, inr, ℕ}
use Rattle.std.specs.Prelude.{◌==◌}
use Rattle.std.proofs.lemmas.Bool.Decides.{eqb_tells}

-- the own region or another
pub own_or_other : (r own : ℕ) → (r ≡ own) ⊎ (r ≢ own)
own_or_other r own = elim (eqb_tells r own) [ inl t ↦ inl t.1 | inr t ↦ inr t.1 ]
