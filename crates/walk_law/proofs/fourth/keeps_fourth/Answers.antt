use Rattle.walk_law.proofs.FourthLemmas.{ok_to, rule_named, rule_told}
use Rattle.walk_law.proofs.Lists.{told_not, told_so}
use Rattle.walk_law.proofs.fourth.keeps_fourth.Goals as goal

pub returns-then-not-branch : goal.returns-then-not-branch
returns-then-not-branch c = λ rule.
    told_not c.in_ok-are_named.field-0 c.in_ok-are_named.ensures c.if-not-branch.true
    (rule_named c.args.subject.now c.agrees.ensures.may.0 c.agrees.ensures.may.1 rule)

pub returns : goal.returns
returns c =
    ok_to c.are_helpers.result _ _
    (λ b told. rule_told c.args.subject.now c.agrees.ensures.may.0 c.agrees.ensures.may.1
    (told_so c.in_ok-are_named.field-0 c.in_ok-are_named.ensures c.if-not-branch.false) b told) c.are_helpers.ensures
