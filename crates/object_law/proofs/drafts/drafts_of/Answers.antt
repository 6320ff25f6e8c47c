use Rattle.std.proofs.Common.{arith}
use Rattle.walk_law.specs.Finds.{decision_at}
use Rattle.object_law.proofs.GoingLemmas.{have_all, have_more}
use Rattle.object_law.proofs.drafts.drafts_of.Goals as goal

pub loop-client-preserved : goal.loop-client-preserved
loop-client-preserved c =
    have_more c.args.subject.now (decision_at c.args.decisions.now) c.loop-client.client c.loop-client.table c.add.new.self
    c.in_ok-client_drafts.field-0 c.in_ok-client_drafts.ensures c.in_ok-add.ensures c.loop-client.invariant

pub returns : goal.returns
returns c =
    let many = c.clients-client-end.ensures in
    let ge = c.loop-client-test.false in
    have_all c.args.subject.now (decision_at c.args.decisions.now) c.loop-client.client c.loop-client.table (omega (arith, ge, many))
    c.loop-client.invariant
