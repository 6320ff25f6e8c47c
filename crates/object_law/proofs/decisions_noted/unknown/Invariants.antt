use Rattle.object_law.proofs.NotedLemmas.{AreUnknown}
use Rattle.object_law.proofs.decisions_noted.unknown.Given as goal

-- those of the clients so far
abbrev pub invariant-loop-client : goal.invariant-loop-client
invariant-loop-client l = AreUnknown l.subject l.client l.clients.items
