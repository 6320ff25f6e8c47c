-- Closures that stay as they are.
use Rattle.std.proofs.Common.{◌≡◌, List, [], ◌∷◌, sym, subst}
use Rattle.std.specs.Fn.{Called, ReturnsEach, AlwaysReturns}
use denote.Param.Members.{Mut}

module _ {F X R : Type 0} where
  returns_each : (g : Mut F X R) (P : X → R → Type 0) (f : F)
      → ((a : X) (r : R) (f' : F) → Called g f a r f' → P a r × (f' ≡ f)) → (xs : List X) → ReturnsEach g P f xs
  returns_each g P f step [] = tt
  returns_each g P f step (a ∷ xs) = λ r f' h.
      let s = step a r f' h in
      let Q : F → Type 0 = λ e. ReturnsEach g P e xs in
      (s.0, subst Q (sym s.1) (returns_each g P f step xs))

  -- such a closure answers always as its calls do
  pub always : (g : Mut F X R) (P : X → R → Type 0) (f : F)
      → ((a : X) (r : R) (f' : F) → Called g f a r f' → P a r × (f' ≡ f)) → AlwaysReturns g P f
  always g P f step = record { at = returns_each g P f step }
