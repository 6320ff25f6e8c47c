use Rattle.tests_log.specs.Clients.{HoldsBoth}
use Rattle.tests_log.proofs.tests.rings.pull_all.Given as goal

abbrev pub invariant-loop : goal.invariant-loop
invariant-loop g l = record { client : HoldsBoth l.east l.west 1 l.client.east l.client.west }
