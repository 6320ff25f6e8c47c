use Rattle.std.proofs.Common.{◌<◌, ℕ}
use Rattle.walk_law.specs.Fourth.{HasMadeIn}
use Rattle.walk_law.proofs.fourth.has_made.Given as goal

-- in the regions so far
abbrev pub invariant-loop-region : goal.invariant-loop-region
invariant-loop-region l = (region : ℕ) → region < l.region → HasMadeIn l.subject l.client l.keeping region
