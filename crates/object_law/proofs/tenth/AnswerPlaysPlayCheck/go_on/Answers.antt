use Rattle.std.proofs.Common.{subst, sym}
use Rattle.run_rules.specs.Told.{kept_at}
use Rattle.walk_law.proofs.CallerLemmas.{told_not, told_so}
use Rattle.object_law.proofs.PartLemmas.{step_can}
use Rattle.object_law.proofs.TenthSteps.{answer_same}
use Rattle.object_law.proofs.tenth.AnswerPlaysPlayCheck.go_on.Goals as goal

pub returns-then-not-branch-clause-told : goal.returns-then-not-branch-clause-told
returns-then-not-branch-clause-told c = λ step seen asked.
    let walked = c.args.subject.now in
    let a = c.args in
    told_not c.in_ok-is_right.field-0
    (c.in_ok-is_right.ensures.told (kept_at step) step.reply.nodes seen.kept
    (step_can walked a.client a.place a.keeping.now step seen c.command.result.now c.command.ensures c.reply.result.now
    c.reply.ensures) (c.requires.stands.cuts a.client a.place c.reply.result.now c.reply.ensures)) c.if-not-branch.true
    (subst (λ (T : Type 0). T) (answer_same walked a.client a.place a.keeping.now step seen c.command.result.now c.command.ensures
    c.reply.result.now c.reply.ensures a.nodes.now) asked)

pub returns-clause-told : goal.returns-clause-told
returns-clause-told c = λ step seen.
    let walked = c.args.subject.now in
    let a = c.args in (
      subst (λ (T : Type 0). T) (sym (answer_same walked a.client a.place a.keeping.now step seen c.command.result.now c.command.ensures
          c.reply.result.now c.reply.ensures a.nodes.now))
          (told_so c.in_ok-is_right.field-0
          (c.in_ok-is_right.ensures.told (kept_at step) step.reply.nodes seen.kept
          (step_can walked a.client a.place a.keeping.now step seen c.command.result.now c.command.ensures c.reply.result.now
          c.reply.ensures) (c.requires.stands.cuts a.client a.place c.reply.result.now c.reply.ensures)) c.if-not-branch.false),
      c.in_ok-go_on.ensures.kept step seen,
    )
