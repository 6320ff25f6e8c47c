use Rattle.log_client.specs.Clients.{IsClient}
use Rattle.bench.proofs.beside.sync_all.Given as goal

abbrev pub invariant-loop : goal.invariant-loop
invariant-loop g l = IsClient l.store l.client
