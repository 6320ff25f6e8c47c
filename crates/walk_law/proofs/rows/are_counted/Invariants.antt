use Rattle.std.proofs.Common.{length, take}
use Rattle.walk_law.specs.RowsBeside.{AreCounted}
use Rattle.walk_law.proofs.rows.are_counted.Given as goal

abbrev pub invariant-loop-row : goal.invariant-loop-row
invariant-loop-row l = AreCounted (length l.fn.counts) (take l.row-index l.rows) l.counts
