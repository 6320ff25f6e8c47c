use Rattle.std.proofs.Common.{◌<◌, ℕ}
use Rattle.walk_law.specs.Fourth.{IsClientNamed}
use Rattle.walk_law.proofs.fourth.are_named.Given as goal

-- of the clients so far
abbrev pub invariant-loop-client : goal.invariant-loop-client
invariant-loop-client l = (client : ℕ) → client < l.client → IsClientNamed l.subject client
