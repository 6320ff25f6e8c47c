use Rattle.std.proofs.Common.{arith}
use Rattle.walk_law.proofs.EnteringLemmas.{own_all, own_among, own_next}
use Rattle.walk_law.proofs.Lists.{told_not, told_so}
use Rattle.walk_law.proofs.fifth.enter_their_own.Goals as goal

pub loop-client-init : goal.loop-client-init
loop-client-init c = λ k lt. absurd (let f : ⊥ = omega (arith, lt) in f)

pub returns-then-not-branch : goal.returns-then-not-branch
returns-then-not-branch c = λ is.
    let less = c.loop-client-test.true in
    let many = c.clients-client-end.ensures in
    told_not c.in_ok-enters_its_own.field-0 c.in_ok-enters_its_own.ensures c.if-not-branch.true
    (own_among c.args.subject.now.script c.args.subject.now.report c.loop-client.client (omega (arith, less, many)) is)

pub loop-client-preserved : goal.loop-client-preserved
loop-client-preserved c =
    own_next c.args.subject.now.script c.args.subject.now.report c.loop-client.client c.loop-client.invariant
    (told_so c.in_ok-enters_its_own.field-0 c.in_ok-enters_its_own.ensures c.if-not-branch.false)

pub returns : goal.returns
returns c =
    let ge = c.loop-client-test.false in
    let many = c.clients-client-end.ensures in
    own_all c.args.subject.now.script c.args.subject.now.report c.loop-client.client (omega (arith, ge, many)) c.loop-client.invariant
