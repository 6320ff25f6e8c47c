use Rattle.std.proofs.Common.{ℕ, ◌<◌}
use Rattle.walk_law.specs.Columns.{IsCopyAt}
use Rattle.walk_law.proofs.copies.are_copies_of.Given as goal

abbrev pub invariant-loop-copier : goal.invariant-loop-copier
invariant-loop-copier l = (k : ℕ) → k < l.copier → IsCopyAt l.shape.colours l.columns l.colour l.origin k
