-- What calls at the numbers below a count give.
use Rattle.std.specs.Prelude.{ℕ, ◌<◌, ◌≡◌, List, Option, Some, slice_get}
use Rattle.std.specs.Fn.{FnReturns}
use denote.Param.Members.{Shared}
use Rattle.fork_join.specs.declared.indices.Given.{Given}

module _ {F X : Type 0} (g : Shared F (ℕ × Unit {0}) X) (f : F) where
  -- the number is below the count, and a call of f with it may give the value
  pub record IsGiven (count : ℕ) (given : Given X) : Type 0 where
    pub below : given.number < count
    pub call : FnReturns g f (given.number, tt) given.value

  -- what stands in a place, a call of f with the place's number may give
  abbrev pub AreGiven : List (Option X) → Type 0
  AreGiven places = (i : ℕ) (x : X) → slice_get places i ≡ Some (Some x) → FnReturns g f (i, tt) x
