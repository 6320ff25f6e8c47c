use Rattle.std.proofs.Common.{ℕ, ◌<◌}
use Rattle.walk_law.specs.Listed.{ClientsRise}
use Rattle.walk_law.proofs.listing.are_by_clients.Given as goal

-- those of the regions so far
abbrev pub invariant-loop-region : goal.invariant-loop-region
invariant-loop-region l = (r : ℕ) → r < l.region → ClientsRise r 0 l.rows
