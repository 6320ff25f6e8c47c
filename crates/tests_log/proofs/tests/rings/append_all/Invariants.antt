use Rattle.tests_log.specs.Clients.{IsClient}
use Rattle.tests_log.proofs.tests.rings.append_all.Given as goal

abbrev pub invariant-loop-count : goal.invariant-loop-count
invariant-loop-count g l = record { hold : IsClient l.east 0 l.count l.hold }
