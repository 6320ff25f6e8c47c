use Rattle.std.proofs.Common.{◌≡◌, ◌∙◌, ap, subst, sym}
use Rattle.log_node.proofs.CallerLemmas.{same_some}
use Rattle.script_text.specs.declared.script.Command.{Command}
use Rattle.report_text.specs.declared.report.ReplyLine.{ReplyLine}
use Rattle.lawful_run.specs.Callers.{caller_of}
use Rattle.run_rules.specs.Told.{Untold, kept_at}
use Rattle.walk_law.specs.Fifth.{finding_in}
use Rattle.walk_law.specs.Seventh.{StopsBy, opening_in}
use Rattle.walk_law.specs.Walking.{log_walked}
use Rattle.walk_law.proofs.Lists.{told_not}
use Rattle.walk_law.proofs.seventh.StoppingCheck.go_on.Goals as goal

pub returns-then-not-branch : goal.returns-then-not-branch
returns-then-not-branch c = λ step seen so.
    let walked = c.args.subject.now in
    let asked : c.command.result.now ≡ step.command = same_some (sym c.command.ensures ∙ seen.command) in
    let same : c.reply.result.now ≡ step.reply = same_some (sym c.reply.ensures ∙ seen.reply) in
    subst (λ (r : ReplyLine). StopsBy (finding_in c.args.self.now.rows walked.report.rows)
    (opening_in c.args.self.now.open.items walked.script.shape.colours) (log_walked walked) step.untold
    (caller_of walked.script c.args.client) (kept_at step) step.command.what r.answer → ⊥) same
    (subst (λ (d : Command). StopsBy (finding_in c.args.self.now.rows walked.report.rows)
    (opening_in c.args.self.now.open.items walked.script.shape.colours) (log_walked walked) step.untold
    (caller_of walked.script c.args.client) (kept_at step) d.what c.reply.result.now.answer → ⊥) asked
    (told_not c.in_ok-stops_by.field-0
    (c.in_ok-stops_by.ensures (kept_at step) step.untold seen.kept (ap (λ (u : Untold). u.places) seen.untold)) c.if-not-branch.true)) so
