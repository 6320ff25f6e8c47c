use Rattle.std.proofs.Common.{◌≡◌, inl, inr, subst, arith}
use Rattle.std.proofs.lemmas.Bool.{cases_lt}
use Rattle.walk_law.specs.Fourth.{IsClientNamed}
use Rattle.walk_law.proofs.Lists.{told_not, told_so}
use Rattle.walk_law.proofs.fourth.are_named.Goals as goal

pub returns-then-not-branch : goal.returns-then-not-branch
returns-then-not-branch c = λ all.
    let less = c.loop-client-test.true in
    let many = c.clients-client-end.ensures in
    told_not c.in_ok-is_client_named.field-0 c.in_ok-is_client_named.ensures c.if-not-branch.true
    (all c.loop-client.client (omega (arith, less, many)))

pub loop-client-preserved : goal.loop-client-preserved
loop-client-preserved c = λ n lt. elim (cases_lt n c.loop-client.client) [
  | inl less ↦ c.loop-client.invariant n less
  | inr ge ↦ subst (IsClientNamed c.args.subject.now) (let e : c.loop-client.client ≡ n = omega (arith, lt, ge) in e)
      (told_so c.in_ok-is_client_named.field-0 c.in_ok-is_client_named.ensures c.if-not-branch.false)
]
