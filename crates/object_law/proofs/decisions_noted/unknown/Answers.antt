use Rattle.std.proofs.Common.{◌∙◌, arith}
use Rattle.object_law.proofs.NotedLemmas.{unknown_next, unknown_none, unknown_slots}
use Rattle.object_law.proofs.decisions_noted.unknown.Goals as goal

pub loop-client-init : goal.loop-client-init
loop-client-init c = unknown_none c.args.subject.now c.new-clients.result.items c.new-clients.ensures.items

pub loop-client-preserved : goal.loop-client-preserved
loop-client-preserved c =
    let count = c.count.ensures.count in
    unknown_next c.args.subject.now c.loop-client.client c.loop-client.clients.items c.push.new.self.items c.in_ok-unknown_of.field-0
    (c.in_ok-unknown_of.ensures.many ∙ count) c.in_ok-unknown_of.ensures.none c.in_ok-push.ensures.items c.loop-client.invariant

pub returns-clause-none : goal.returns-clause-none
returns-clause-none c = c.loop-client.invariant.none

pub returns-clause-slots : goal.returns-clause-slots
returns-clause-slots c =
    let many = c.clients-client-end.ensures in
    let ge = c.loop-client-test.false in
    unknown_slots c.args.subject.now c.loop-client.client c.loop-client.clients.items (omega (arith, ge, many)) c.loop-client.invariant
