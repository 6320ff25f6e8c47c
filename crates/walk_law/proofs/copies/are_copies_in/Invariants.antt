use Rattle.std.proofs.Common.{ℕ, ◌<◌}
use Rattle.walk_law.specs.Columns.{AreCopiesOf}
use Rattle.walk_law.proofs.copies.are_copies_in.Given as goal

abbrev pub invariant-loop-origin : goal.invariant-loop-origin
invariant-loop-origin l = (k : ℕ) → k < l.origin → AreCopiesOf l.shape.regions l.shape.colours l.columns l.colour k
