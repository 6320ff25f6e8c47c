-- Helps that a command gives, with memory granted where it happens to be.
use Rattle.std.specs.Prelude.{◌≡◌, ◌+◌, ℕ, Bool, List, [], ◌∷◌, length}
use Rattle.world_laws.specs.declared.steps.Step.{Step}
use Rattle.world_laws.specs.Worlds.{World, run_steps}
use Rattle.script_meaning.specs.States.{Grants}
use Rattle.script_meaning.specs.Helping.{Helping}

-- the next helps of a command, counted from this number, find memory in these colours
abbrev pub FindsNext : Grants → ℕ → List (ℕ → Bool) → Type 0
FindsNext grants count [] = Unit {0}
FindsNext grants count (colours ∷ more) = (grants.helps count ≡ colours) × FindsNext grants (count + 1) more

-- By this meaning helps lead from one world to the other, however many the command has given before.
pub record HelpsLead (meaning : Grants → Helping → Helping) (old new : World) : Type 0 where
  -- for each help the colours in which it is granted memory
  pub finds : List (ℕ → Bool)
  pub is : (grants : Grants) (count : ℕ) → FindsNext grants count finds
      → meaning grants (record { world = old; helps = count }) ≡ record { world = new; helps = count + length finds }
  -- the steps that were taken
  pub steps : List Step
  pub run : run_steps old steps ≡ new
