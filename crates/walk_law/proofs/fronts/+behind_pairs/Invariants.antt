use Rattle.std.proofs.Common.{length}
use Rattle.walk_law.proofs.fronts.+behind_pairs.Given as goal

abbrev pub decreases-behind_pairs : goal.decreases-behind_pairs
decreases-behind_pairs l = length l.pairs.now
