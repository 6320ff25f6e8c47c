use Rattle.object_law.specs.NodeTables.{nodes_at}
use Rattle.object_law.specs.Showing.{SaysShown}
use Rattle.object_law.proofs.ShowingLemmas.{OfFirst}
use Rattle.object_law.proofs.showing.each_says_shown.Given as goal

-- the nodes of the clients so far do
abbrev pub invariant-loop-client : goal.invariant-loop-client
invariant-loop-client l = OfFirst (SaysShown l.decided l.texts) l.subject.report (nodes_at l.nodes) l.client
