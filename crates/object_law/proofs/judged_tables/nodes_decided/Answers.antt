use Rattle.std.proofs.Common.{ℕ, List, arith, subst}
use Rattle.std.specs.Prelude.{IfOk}
use Rattle.log_node.specs.declared.node.Node.{Node}
use Rattle.run_rules.specs.Deciding.{decisions_of}
use Rattle.run_rules.proofs.CallerLemmas.{keeps_fewer}
use Rattle.walk_law.specs.Finds.{decision_at, finds_at}
use Rattle.object_law.specs.NodeTables.{AreNodes}
use Rattle.object_law.proofs.JudgedNodes.{its_keys, its_nodes}
use Rattle.object_law.proofs.judged_tables.nodes_decided.Goals as goal

pub decisions_of-requires-clause-keys : goal.decisions_of-requires-clause-keys
decisions_of-requires-clause-keys c =
    its_keys c.args.subject.now.script c.args.subject.now.report (finds_at c.args.finds.now) c.requires.finds

pub decisions_of-requires-clause-keeps : goal.decisions_of-requires-clause-keeps
decisions_of-requires-clause-keeps c =
    keeps_fewer c.args.subject.now.script c.args.subject.now.report 9 13 (omega arith) c.requires.keeps

pub nodes_with-requires : goal.nodes_with-requires
nodes_with-requires c =
    its_keys c.args.subject.now.script c.args.subject.now.report (finds_at c.args.finds.now) c.requires.finds

pub returns : goal.returns
returns c =
    subst (λ (nodes : ℕ → List Node). IfOk c.nodes_with.result (AreNodes nodes))
    (its_nodes c.args.subject.now.script c.args.subject.now.report (finds_at c.args.finds.now) c.requires.finds
    (decision_at c.in_ok-decisions.decisions) (decisions_of c.args.subject.now.script c.args.subject.now.report)
    c.in_ok-decisions.ensures)
    c.nodes_with.ensures
