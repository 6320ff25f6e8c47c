use Rattle.std.proofs.Common.{◌≡◌, ◌∙◌, ap, sym, subst}
use Rattle.log_node.proofs.CallerLemmas.{same_some}
use Rattle.script_text.specs.declared.commands.What.{What}
use Rattle.script_text.specs.declared.script.Command.{Command}
use Rattle.report_text.specs.declared.report.Answer.{Answer}
use Rattle.report_text.specs.declared.report.ReplyLine.{ReplyLine}
use Rattle.lawful_run.specs.Callers.{caller_of}
use Rattle.lawful_run.specs.Refusals.{kept_behind}
use Rattle.run_rules.specs.Told.{kept_at, kept_told}
use Rattle.run_rules.specs.Telling.{replies_to, untold_told}
use Rattle.walk_law.specs.Keepings.{IsCounted}
use Rattle.walk_law.specs.Walking.{log_walked, places_printed}
use Rattle.walk_law.proofs.keeping.Keeping.go_on.Goals as goal

pub returns-clause-kept : goal.returns-clause-kept
returns-clause-kept c step seen =
    let walked = c.args.subject.now in
    let log = log_walked walked in
    let caller = caller_of walked.script c.args.client in
    let replies = replies_to walked.report c.args.client in
    let what : step.command.what ≡ c.command.result.now.what =
    ap (λ (m : Command). m.what) (same_some (sym seen.command ∙ c.command.ensures)) in
    let answer : step.reply.answer ≡ c.reply.result.now.answer =
    ap (λ (r : ReplyLine). r.answer) (same_some (sym seen.reply ∙ c.reply.ensures)) in
    let told = c.in_ok-answered.ensures.kept (kept_at step) step.untold (record {
      reply = (step.reply, seen.reply, answer);
      told = seen.untold
          ∙ (ap (λ (w : What). untold_told log caller (places_printed walked c.args.client) (kept_at step) w step.reply.answer) what
          ∙ ap (untold_told log caller (places_printed walked c.args.client) (kept_at step) c.command.result.now.what) answer);
      counts = seen.kept;
    }) in
    subst (λ (w : What). IsCounted replies (kept_behind w (kept_told log step.untold caller (kept_at step) w step.reply.answer)) c.end.new.self)
    (sym what)
    (subst (λ (a : Answer). IsCounted replies (kept_behind c.command.result.now.what
    (kept_told log step.untold caller (kept_at step) c.command.result.now.what a)) c.end.new.self) (sym answer)
    (c.end.ensures.kept replies (kept_told log step.untold caller (kept_at step) c.command.result.now.what c.reply.result.now.answer) told))
