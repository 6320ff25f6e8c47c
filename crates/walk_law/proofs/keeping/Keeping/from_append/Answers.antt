use Rattle.lawful_run.specs.Callers.{caller_of}
use Rattle.run_rules.specs.Telling.{replies_to}
use Rattle.walk_law.proofs.EnteringLemmas.{decided_past, seen_appending}
use Rattle.std.proofs.Common.{sym}
use Rattle.walk_law.proofs.keeping.Keeping.from_append.Goals as goal

pub returns-in_ok-ended-in-Decided : goal.returns-in_ok-ended-in-Decided
returns-in_ok-ended-in-Decided c = λ before step seen counted.
    let walked = c.args.subject.now in
    let replies = replies_to walked.report c.args.client in
    let w = c.in-Decided in
    decided_past walked c.args.client c.args.place before step seen c.reply.result.now c.reply.ensures c.command.result.now
    c.command.ensures w.commits w.stamp w.sync w.read_stamp w.raises w.syncs w.ended w.is c.args.self.now c.ended.new.self c.end.new.self
    counted
    (λ k is. c.in_ok-ended-in-Decided.ensures.kept replies (caller_of walked.script c.args.client) k step.untold (sym c.own.ensures.own) is)
    (λ k is. c.end.ensures.kept replies k is)

pub returns-in_default : goal.returns-in_default
returns-in_default c = λ before step seen counted.
    c.go_on.ensures.kept step
    (seen_appending c.args.subject.now c.args.client c.args.place before step seen c.reply.result.now c.reply.ensures c.args.self.now
    c.in_default.not-Decided counted)
