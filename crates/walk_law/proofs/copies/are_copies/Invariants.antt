use Rattle.std.proofs.Common.{ℕ, ◌<◌}
use Rattle.walk_law.specs.Columns.{AreCopiesIn}
use Rattle.walk_law.proofs.copies.are_copies.Given as goal

abbrev pub invariant-loop-colour : goal.invariant-loop-colour
invariant-loop-colour l = (k : ℕ) → k < l.colour → AreCopiesIn l.shape.regions l.shape.colours l.columns k
