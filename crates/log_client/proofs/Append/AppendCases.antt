-- One colour or several: which append is called, and what its answer says.
use Rattle.std.proofs.Common.{◌≡◌, ℕ, ◌<◌, ◌≤◌, List, [], ◌∷◌, length, Some, None, Option, Ok, Err, Result, true, refl, ap, arith, eqb-true}
use Rattle.std.specs.Option.{option_eq}
use Rattle.std.specs.Prelude.{eqb, IfErr, IfOk, IfSome, MatchResult, OnOk, slice_get}
use Rattle.log_node.specs.declared.ids.Colours.{Colours}
use Rattle.log_node.specs.Sets.{members}
use Rattle.log_client.specs.Appends.{IsStopWithin}

-- what is said of each answer
module _ {A E : Type 0} (N : Type 0) (P : A → Type 0) (Q : E → Type 0) where
  pub said_ok : (result : Result A E) → MatchResult result (λ a. N × P a) Q → IfOk result P
  said_ok (Ok a) m = m.1
  said_ok (Err e) m = tt

  pub said_on : (result : Result A E) → MatchResult result (λ a. N × P a) Q → OnOk result N
  said_on (Ok a) m = m.0
  said_on (Err e) m = tt

  pub said_err : (result : Result A E) → MatchResult result (λ a. N × P a) Q → IfErr result Q
  said_err (Ok a) m = tt
  said_err (Err e) m = m

-- a stop is of several colours
pub no_stop : (colours : Colours) (stop : Option ℕ) → IfSome stop (IsStopWithin colours) → length (members colours) ≤ 1
    → stop ≡ None
no_stop colours None within one = refl
no_stop colours (Some steps) within one =
    let two = within.0 in
    absurd (let f : ⊥ = omega (arith, two, one) in f)

-- the only one of a list
pub only_one : {A : Type 0} (xs : List A) (x : A) → slice_get xs 0 ≡ Some x → length xs ≤ 1 → xs ≡ x ∷ []
only_one [] x at one = absurd (let f : ⊥ = cc (at) in f)
only_one (y ∷ []) x at one = let same : y ≡ x = cc (at) in ap (λ z. z ∷ []) same
only_one (y ∷ z ∷ xs) x at one = absurd (let f : ⊥ = omega (arith, one) in f)

pub not_none : {A : Type 0} (xs : List A) → slice_get xs 0 ≡ None → 0 < length xs → ⊥
not_none [] at some = omega (arith, some)
not_none (y ∷ xs) at some = cc (at)

-- a number that was found to be asked for
pub is_asked : (stop : Option ℕ) (n : ℕ) → option_eq eqb stop (Some n) ≡ true → stop ≡ Some n
is_asked None n e = absurd (let f : ⊥ = cc (e) in f)
is_asked (Some m) n e = ap Some (eqb-true m n e)
