use Rattle.std.proofs.Common.{length}
use Rattle.walk_law.proofs.writers.+behind_versions.Given as goal

abbrev pub decreases-behind_versions : goal.decreases-behind_versions
decreases-behind_versions l = length l.shown.now
