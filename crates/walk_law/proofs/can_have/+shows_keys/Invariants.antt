use Rattle.std.proofs.Common.{length}
use Rattle.walk_law.proofs.can_have.+shows_keys.Given as goal

abbrev pub decreases-shows_keys : goal.decreases-shows_keys
decreases-shows_keys l = length l.shown.now
