use Rattle.lawful_run.specs.Callers.{caller_of}
use Rattle.run_rules.specs.Told.{kept_appending, kept_at}
use Rattle.run_rules.specs.Telling.{replies_to}
use Rattle.walk_law.specs.Walking.{log_walked}
use Rattle.walk_law.proofs.EnteringLemmas.{counted_appending, step_told}
use Rattle.walk_law.proofs.Lists.{told_not, told_so}
use Rattle.walk_law.proofs.entering.RowPlacesCheck.go_on.Goals as goal

pub returns-then-not-branch : goal.returns-then-not-branch
returns-then-not-branch c = λ step seen.
    let walked = c.args.subject.now in
    let kept = kept_appending (log_walked walked) (caller_of walked.script c.args.client) (kept_at step) c.reply.result.now.answer in
    told_not c.in_ok-enters_node.field-0
    (step_told walked c.args.client c.args.place c.args.keeping.now step seen c.reply.result.now c.reply.ensures c.command.result.now
    c.command.ensures c.args.self.now c.in_ok-enters_node.field-0
    (c.in_ok-enters_node.ensures kept
    (c.in_ok-to_append.ensures.kept (replies_to walked.report c.args.client) (kept_at step) seen.kept)))
    c.if-not-branch.true

pub returns : goal.returns
returns c = λ step seen.
    let walked = c.args.subject.now in
    let kept = kept_appending (log_walked walked) (caller_of walked.script c.args.client) (kept_at step) c.reply.result.now.answer in
    let counted = c.in_ok-to_append.ensures.kept (replies_to walked.report c.args.client) (kept_at step) seen.kept in (
      told_so c.in_ok-enters_node.field-0
          (step_told walked c.args.client c.args.place c.args.keeping.now step seen c.reply.result.now c.reply.ensures
          c.command.result.now c.command.ensures c.args.self.now c.in_ok-enters_node.field-0
          (c.in_ok-enters_node.ensures kept counted))
          c.if-not-branch.false,
      c.in_ok-from_append.ensures c.args.keeping.now step seen
          (counted_appending walked c.args.client c.args.place c.args.keeping.now step seen c.reply.result.now c.reply.ensures
          c.to_append.new.self counted),
    )
