use Rattle.std.proofs.Common.{◌+◌, ◌*◌, length}
use Rattle.fork_join.proofs.items.+shares.Given as goal

abbrev pub decreases-first_beside_others : goal.decreases-first_beside_others
decreases-first_beside_others g l = 3 * length l.others.now + 2

abbrev pub decreases-first_beside_others-rest : goal.decreases-first_beside_others-rest
decreases-first_beside_others-rest g l = 3 * length l.others.now + 1

abbrev pub decreases-in_shares : goal.decreases-in_shares
decreases-in_shares g l = 3 * length l.items.now
