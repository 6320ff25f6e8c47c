use Rattle.std.proofs.Common.{arith}
use Rattle.run_rules.specs.Nodes.{nodes_with}
use Rattle.walk_law.specs.Finds.{decision_at, finds_at}
use Rattle.object_law.proofs.GoingLemmas.{has_all, has_more, no_client}
use Rattle.object_law.proofs.node_told.nodes_with.Goals as goal

pub loop-client-init : goal.loop-client-init
loop-client-init c = record { many = c.in_ok-table.ensures.many; each = λ client lt. absurd (let f : ⊥ = omega (arith, lt) in f) }

pub loop-client-preserved : goal.loop-client-preserved
loop-client-preserved c =
    let walked = c.args.subject.now in
    has_more (nodes_with walked.script walked.report (finds_at c.args.finds.now) (decision_at c.args.decisions.now)) c.loop-client.client
    c.loop-client.table c.add_client.new.self c.in_ok-client_nodes.field-0 c.in_ok-client_nodes.ensures c.in_ok-add_client.ensures
    c.loop-client.invariant

pub returns : goal.returns
returns c =
    let walked = c.args.subject.now in
    let found = finds_at c.args.finds.now in
    let decided = decision_at c.args.decisions.now in
    let many = c.clients-client-end.ensures in
    let ge = c.loop-client-test.false in
    has_all (nodes_with walked.script walked.report found decided) c.loop-client.client c.loop-client.table c.loop-client.invariant
    (λ client le. no_client walked.script walked.report found decided client (omega (arith, ge, le, many)))
