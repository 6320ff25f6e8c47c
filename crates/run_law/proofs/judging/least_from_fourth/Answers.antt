use Rattle.run_law.proofs.LeastLemmas.{fifth_broken, fourth_broken}
use Rattle.walk_law.proofs.CallerLemmas.{told_not, told_so}
use Rattle.run_law.proofs.judging.least_from_fourth.Goals as goal

pub returns-then-not-branch : goal.returns-then-not-branch
returns-then-not-branch c =
    let may = c.agrees.ensures.may in
    fourth_broken c.first_rules_decided.ensures c.args.subject.now.script c.args.subject.now.report may.0 may.1
    (told_not _ c.in_ok-keeps_fourth.ensures c.if-not-branch.true)

pub returns-then-not-branch-2 : goal.returns-then-not-branch-2
returns-then-not-branch-2 c =
    let may = c.agrees.ensures.may in
    fifth_broken c.first_rules_decided.ensures c.args.subject.now.script c.args.subject.now.report may.0 may.1
    c.later_rules_decided.ensures (told_so _ c.in_ok-keeps_fourth.ensures c.if-not-branch.false)
    (told_not _ c.in_ok-keeps_fifth.ensures c.if-not-branch-2.true)
