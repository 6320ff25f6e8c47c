use Rattle.run_rules.specs.Nodes.{nodes_with}
use Rattle.walk_law.specs.Finds.{decision_at, finds_at}
use Rattle.object_law.proofs.GoingLemmas.{HasFirst}
use Rattle.object_law.proofs.node_told.nodes_with.Given as goal

-- those of the clients so far
abbrev pub invariant-loop-client : goal.invariant-loop-client
invariant-loop-client l =
    HasFirst (nodes_with l.subject.script l.subject.report (finds_at l.finds) (decision_at l.decisions)) l.client l.table
