use Rattle.std.proofs.Common.{ℕ, List, subst}
use Rattle.std.specs.Prelude.{IfOk}
use Rattle.log_node.specs.declared.node.Node.{Node}
use Rattle.run_rules.specs.Computing.{any_decisions}
use Rattle.walk_law.specs.Finds.{decision_at, finds_at}
use Rattle.object_law.specs.NodeTables.{AreNodes}
use Rattle.object_law.proofs.JudgedNodes.{its_keys, its_nodes}
use Rattle.object_law.proofs.judged_tables.nodes_found.Goals as goal

pub nodes_with-requires : goal.nodes_with-requires
nodes_with-requires c =
    its_keys c.args.subject.now.script c.args.subject.now.report (finds_at c.args.finds.now) c.requires

pub returns : goal.returns
returns c =
    subst (λ (nodes : ℕ → List Node). IfOk c.nodes_with.result (AreNodes nodes))
    (its_nodes c.args.subject.now.script c.args.subject.now.report (finds_at c.args.finds.now) c.requires
    (decision_at c.none-decisions.result) any_decisions c.none-decisions.ensures)
    c.nodes_with.ensures
