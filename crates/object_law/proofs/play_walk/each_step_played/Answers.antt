use Rattle.std.proofs.Common.{arith}
use Rattle.walk_law.proofs.CallerLemmas.{clients_all, clients_off, clients_on}
use Rattle.object_law.proofs.play_walk.each_step_played.Goals as goal

pub loop-client-init : goal.loop-client-init
loop-client-init g c = (λ k lt. absurd (let f : ⊥ = omega (arith, lt) in f), c.requires)

pub returns-then-is_none : goal.returns-then-is_none
returns-then-is_none g c =
    let less = c.loop-client-test.true in
    let many = c.clients-client-end.ensures in
    clients_off c.args.subject.now (g.C.PlayCheck.Asks c.args.subject.now c.args.nodes.now) c.nodes_change_no_step.ensures c.loop-client.client
    c.in_ok-walk.field-0 (omega (arith, less, many)) c.in_ok-walk.ensures.told c.if-is_none.ensures

pub loop-client-preserved : goal.loop-client-preserved
loop-client-preserved g c = (
  clients_on c.args.subject.now (g.C.PlayCheck.Asks c.args.subject.now c.args.nodes.now) c.loop-client.client
      c.in_ok-walk.field-0 c.loop-client.invariant.0 c.in_ok-walk.ensures.told c.if-is_none.ensures,
  c.in_ok-walk.ensures.stands,
)

pub returns : goal.returns
returns g c =
    let ge = c.loop-client-test.false in
    let many = c.clients-client-end.ensures in
    clients_all c.args.subject.now (g.C.PlayCheck.Asks c.args.subject.now c.args.nodes.now) c.nodes_change_no_step.ensures c.loop-client.client
    (omega (arith, ge, many)) c.loop-client.invariant.0
