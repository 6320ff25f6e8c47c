use Rattle.lawful_run.specs.Callers.{caller_of}
use Rattle.run_rules.specs.Told.{kept_at, kept_told}
use Rattle.run_rules.specs.Telling.{replies_to}
use Rattle.walk_law.specs.Walking.{log_walked}
use Rattle.walk_law.proofs.ReadingLemmas.{passes_not, passes_so}
use Rattle.walk_law.proofs.SeenAnswers.{step_answered, step_behind, step_can, step_passes, step_within}
use Rattle.walk_law.proofs.ninth.ShownCheckCheck.go_on.Goals as goal

pub returns-then-not-branch : goal.returns-then-not-branch
returns-then-not-branch c = λ step seen asked.
    let walked = c.args.subject.now in
    let fits = c.agrees.ensures.may.1.fitting in
    let command = c.command.result.now in
    let reply = c.reply-reply.result.now in
    let caller = caller_of walked.script c.args.client in
    let it = c.in_ok-shows.ensures (kept_at step) step.untold
    (step_answered walked fits c.args.client c.args.place c.args.keeping.now step seen command reply c.command.ensures c.reply-reply.ensures)
    (step_can walked fits c.args.client c.args.place c.args.keeping.now step seen command reply c.command.ensures c.reply-reply.ensures)
    (step_within walked fits c.args.client c.args.place c.args.keeping.now step seen command reply c.command.ensures c.reply-reply.ensures) in
    passes_not (replies_to walked.report c.args.client)
    (kept_told (log_walked walked) step.untold caller (kept_at step) step.command.what step.reply.answer) c.shows.new.self
    c.in_ok-shows.field-0
    (step_passes walked fits c.args.client c.args.place c.args.keeping.now step seen command reply c.command.ensures
    c.reply-reply.ensures c.args.self.now.texts.now c.shows.new.self c.in_ok-shows.field-0 it) c.if-not-branch.true asked

pub returns : goal.returns
returns c = λ step seen.
    let walked = c.args.subject.now in
    let fits = c.agrees.ensures.may.1.fitting in
    let command = c.command.result.now in
    let reply = c.reply-reply.result.now in
    let caller = caller_of walked.script c.args.client in
    let replies = replies_to walked.report c.args.client in
    let it = c.in_ok-shows.ensures (kept_at step) step.untold
    (step_answered walked fits c.args.client c.args.place c.args.keeping.now step seen command reply c.command.ensures c.reply-reply.ensures)
    (step_can walked fits c.args.client c.args.place c.args.keeping.now step seen command reply c.command.ensures c.reply-reply.ensures)
    (step_within walked fits c.args.client c.args.place c.args.keeping.now step seen command reply c.command.ensures c.reply-reply.ensures) in
    let told = kept_told (log_walked walked) step.untold caller (kept_at step) step.command.what step.reply.answer in
    let so = passes_so replies told c.shows.new.self c.in_ok-shows.field-0
    (step_passes walked fits c.args.client c.args.place c.args.keeping.now step seen command reply c.command.ensures
    c.reply-reply.ensures c.args.self.now.texts.now c.shows.new.self c.in_ok-shows.field-0 it) c.if-not-branch.false in (
      so.0,
      step_behind walked fits c.args.client c.args.place c.args.keeping.now step seen command reply c.command.ensures
          c.reply-reply.ensures c.end.new.self (c.end.ensures.kept replies told so.1),
    )
