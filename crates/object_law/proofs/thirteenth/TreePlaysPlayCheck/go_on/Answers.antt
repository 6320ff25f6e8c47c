use Rattle.walk_law.proofs.CallerLemmas.{told_not, told_so}
use Rattle.object_law.proofs.thirteenth.TreePlaysPlayCheck.go_on.Goals as goal

pub returns-then-not-branch-clause-told : goal.returns-then-not-branch-clause-told
returns-then-not-branch-clause-told c = λ step seen asked.
    told_not c.in_ok-say_so.field-0 (c.in_ok-say_so.ensures.told step seen) c.if-not-branch.true asked

pub returns-clause-told : goal.returns-clause-told
returns-clause-told c = λ step seen. (
  told_so c.in_ok-say_so.field-0 (c.in_ok-say_so.ensures.told step seen) c.if-not-branch.false,
  c.in_ok-go_on.ensures.kept step seen,
)
