use Rattle.lawful_run.specs.Callers.{caller_of}
use Rattle.run_rules.specs.Told.{kept_appending, kept_at}
use Rattle.run_rules.specs.Telling.{replies_to}
use Rattle.walk_law.specs.Eleventh.{looks_in}
use Rattle.walk_law.specs.Walking.{log_walked}
use Rattle.walk_law.proofs.CauseSteps.{cause_from, cause_so, low_colour}
use Rattle.walk_law.proofs.EnteringLemmas.{counted_appending}
use Rattle.walk_law.proofs.Lists.{told_not, told_so}
use Rattle.walk_law.proofs.eleventh.CausesCheck.go_on.Goals as goal

pub returns-then-not-branch : goal.returns-then-not-branch
returns-then-not-branch c = λ step seen cause.
    let walked = c.args.subject.now in
    let may = c.agrees.ensures.may in
    told_not c.in_ok-has_room.field-0 (c.in_ok-has_room.ensures (kept_at step) seen.kept) c.if-not-branch.true
    (cause_so walked may.0 may.1 c.args.client c.args.place c.args.keeping.now step seen c.command.result.now c.command.ensures
    c.reply.result.now c.reply.ensures (looks_in c.args.self.now walked.report.rows) cause).0

pub returns-then-not-branch-2 : goal.returns-then-not-branch-2
returns-then-not-branch-2 c = λ step seen cause.
    let walked = c.args.subject.now in
    let may = c.agrees.ensures.may in
    let kept = kept_appending (log_walked walked) (caller_of walked.script c.args.client) (kept_at step) c.reply.result.now.answer in
    told_not c.in_ok-is_caused.field-0
    (c.in_ok-is_caused.ensures kept
    (c.in_ok-to_append.ensures.kept (replies_to walked.report c.args.client) (kept_at step) seen.kept)
    (low_colour walked may.0 may.1 c.args.client c.args.place c.args.keeping.now step seen c.command.result.now c.command.ensures
    c.reply.result.now c.reply.ensures)) c.if-not-branch-2.true
    (cause_so walked may.0 may.1 c.args.client c.args.place c.args.keeping.now step seen c.command.result.now c.command.ensures
    c.reply.result.now c.reply.ensures (looks_in c.args.self.now walked.report.rows) cause).2

pub returns : goal.returns
returns c = λ step seen.
    let walked = c.args.subject.now in
    let may = c.agrees.ensures.may in
    let kept = kept_appending (log_walked walked) (caller_of walked.script c.args.client) (kept_at step) c.reply.result.now.answer in
    let counted = c.in_ok-to_append.ensures.kept (replies_to walked.report c.args.client) (kept_at step) seen.kept in (
      cause_from walked may.0 may.1 c.args.client c.args.place c.args.keeping.now step seen c.command.result.now c.command.ensures
          c.reply.result.now c.reply.ensures (looks_in c.args.self.now walked.report.rows) (
            told_so c.in_ok-has_room.field-0 (c.in_ok-has_room.ensures (kept_at step) seen.kept) c.if-not-branch.false,
            told_so c.is_kept_away.result c.is_kept_away.ensures c.if-not-is_kept_away.false,
            told_so c.in_ok-is_caused.field-0
                (c.in_ok-is_caused.ensures kept counted
                (low_colour walked may.0 may.1 c.args.client c.args.place c.args.keeping.now step seen c.command.result.now
                c.command.ensures c.reply.result.now c.reply.ensures)) c.if-not-branch-2.false,
          ),
      c.in_ok-from_append.ensures c.args.keeping.now step seen
          (counted_appending walked c.args.client c.args.place c.args.keeping.now step seen c.reply.result.now c.reply.ensures
          c.to_append.new.self counted),
    )
