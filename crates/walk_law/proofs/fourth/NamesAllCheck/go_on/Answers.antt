use Rattle.walk_law.proofs.FourthLemmas.{command_within, seen_told}
use Rattle.walk_law.proofs.Lists.{told_not, told_so}
use Rattle.walk_law.proofs.fourth.NamesAllCheck.go_on.Goals as goal

pub names-requires-clause-within : goal.names-requires-clause-within
names-requires-clause-within c =
    command_within c.args.subject.now c.agrees.ensures.may.0 c.agrees.ensures.may.1 c.args.client c.args.place c.command.result.now
    c.command.ensures

pub returns-then-not-branch : goal.returns-then-not-branch
returns-then-not-branch c = λ step seen.
    told_not c.in_ok-names.field-0
    (seen_told c.args.subject.now c.agrees.ensures.may.0 c.agrees.ensures.may.1 c.args.client c.args.place c.args.keeping.now step seen
    c.command.result.now c.command.ensures c.reply.result.now c.reply.ensures c.in_ok-names.field-0 c.in_ok-names.ensures)
    c.if-not-branch.true

pub returns : goal.returns
returns c = λ step seen. (
  told_so c.in_ok-names.field-0
      (seen_told c.args.subject.now c.agrees.ensures.may.0 c.agrees.ensures.may.1 c.args.client c.args.place c.args.keeping.now step
      seen c.command.result.now c.command.ensures c.reply.result.now c.reply.ensures c.in_ok-names.field-0 c.in_ok-names.ensures)
      c.if-not-branch.false,
  c.in_ok-go_on.ensures.kept step seen,
)
