use Rattle.std.proofs.Common.{arith}
use Rattle.walk_law.specs.Finds.{finds_at}
use Rattle.object_law.proofs.DecidedGoing.{decided_every, decided_more}
use Rattle.object_law.proofs.decided_nodes.decided_nodes.Goals as goal

pub loop-client-preserved : goal.loop-client-preserved
loop-client-preserved c =
    decided_more c.args.subject.now (finds_at c.args.finds.now) c.loop-client.client c.loop-client.table c.add.new.self
    c.in_ok-client_nodes.field-0 c.in_ok-client_nodes.ensures c.in_ok-add.ensures c.loop-client.invariant

pub returns : goal.returns
returns c =
    let many = c.clients-client-end.ensures in
    let ge = c.loop-client-test.false in
    decided_every c.args.subject.now (finds_at c.args.finds.now) c.loop-client.client c.loop-client.table (omega (arith, ge, many))
    c.loop-client.invariant
