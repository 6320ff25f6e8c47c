use Rattle.walk_law.specs.Finds.{finds_at}
use Rattle.object_law.proofs.DecidedGoing.{HaveDecided}
use Rattle.object_law.proofs.decided_nodes.decided_nodes.Given as goal

-- those of the clients so far
abbrev pub invariant-loop-client : goal.invariant-loop-client
invariant-loop-client l = HaveDecided l.subject (finds_at l.finds) l.client l.table
