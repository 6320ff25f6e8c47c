use Rattle.std.proofs.Common.{◌≡◌, replicate}
use Rattle.world_code.specs.Clients.{fresh_client}
use Rattle.world_code.proofs.world.fresh_clients.Given as goal

-- the clients so far
abbrev pub invariant-loop : goal.invariant-loop
invariant-loop l = l.clients.items ≡ replicate l.counter fresh_client
