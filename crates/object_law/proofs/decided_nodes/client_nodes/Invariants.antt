use Rattle.walk_law.specs.Finds.{finds_at}
use Rattle.object_law.proofs.DecidedGoing.{AllGone}
use Rattle.object_law.proofs.decided_nodes.client_nodes.Given as goal

-- the commands so far are gone over
abbrev pub invariant-loop-place : goal.invariant-loop-place
invariant-loop-place l = AllGone l.subject l.client (finds_at l.finds) l.place l.going.keeping l.going.places l.nodes
