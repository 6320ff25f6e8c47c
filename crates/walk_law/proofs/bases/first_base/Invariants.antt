use Rattle.std.proofs.Common.{◌≡◌, ◌⊎◌, ◌-◌, ◌<◌, ◌≤◌, ℕ}
use Rattle.log_node.specs.Vectors.{IsWithin}
use Rattle.walk_law.specs.Bases.{base_after}
use Rattle.walk_law.proofs.bases.first_base.Given as goal

-- the number that is searched for is one from the lower to the higher one
pub record invariant-loop-low (l : goal.Live-loop-low) : Type 0 where
  pub from_on : l.from ≤ l.low
  pub order : l.low ≤ l.high
  pub up_to : l.high ≤ l.to
  pub before : (n : ℕ) → l.from ≤ n → n < l.low → IsWithin l.base (base_after l.track n) → ⊥
  pub there : IsWithin l.base (base_after l.track l.high) ⊎ (l.high ≡ l.to)

-- proposed from the loop's first test
abbrev pub decreases-loop-low : goal.decreases-loop-low
decreases-loop-low l = l.high - l.low
