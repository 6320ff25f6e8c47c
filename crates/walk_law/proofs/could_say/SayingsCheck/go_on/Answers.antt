use Rattle.std.proofs.Common.{◌≡◌, ◌∙◌, Bool, subst, sym}
use Rattle.log_node.proofs.CallerLemmas.{same_some}
use Rattle.script_text.specs.declared.script.Command.{Command}
use Rattle.report_text.specs.declared.report.ReplyLine.{ReplyLine}
use Rattle.lawful_run.specs.Callers.{caller_of}
use Rattle.column_track.specs.Tracks.{Tells}
use Rattle.run_rules.specs.Told.{kept_at}
use Rattle.walk_law.specs.TextsSaid.{ShowsSayable}
use Rattle.walk_law.specs.Walking.{log_walked}
use Rattle.walk_law.proofs.could_say.SayingsCheck.go_on.Goals as goal

pub returns-then-not-branch : goal.returns-then-not-branch
returns-then-not-branch c = λ step seen.
    let walked = c.args.subject.now in
    let report = c.args.self.now.texts.now in
    let log = log_walked walked in
    let caller = caller_of walked.script c.args.client in
    let asked : c.command.result.now ≡ step.command = same_some (sym c.command.ensures ∙ seen.command) in
    let told : c.reply.result.now ≡ step.reply = same_some (sym c.reply.ensures ∙ seen.reply) in
    subst (λ (r : ReplyLine). ShowsSayable report log caller (kept_at step) step.command.what r.answer → ⊥) told
    (subst (λ (x : Command). ShowsSayable report log caller (kept_at step) x.what c.reply.result.now.answer → ⊥) asked
    (subst (λ (b : Bool). Tells b (ShowsSayable report log caller (kept_at step) c.command.result.now.what c.reply.result.now.answer))
    c.if-not-branch.true (c.in_ok-shows_sayable.ensures (kept_at step) seen.kept)))

pub returns : goal.returns
returns c = λ step seen.
    let walked = c.args.subject.now in
    let report = c.args.self.now.texts.now in
    let log = log_walked walked in
    let caller = caller_of walked.script c.args.client in
    let asked : c.command.result.now ≡ step.command = same_some (sym c.command.ensures ∙ seen.command) in
    let told : c.reply.result.now ≡ step.reply = same_some (sym c.reply.ensures ∙ seen.reply) in (
      subst (λ (r : ReplyLine). ShowsSayable report log caller (kept_at step) step.command.what r.answer) told
          (subst (λ (x : Command). ShowsSayable report log caller (kept_at step) x.what c.reply.result.now.answer) asked
          (subst (λ (b : Bool). Tells b (ShowsSayable report log caller (kept_at step) c.command.result.now.what c.reply.result.now.answer))
          c.if-not-branch.false (c.in_ok-shows_sayable.ensures (kept_at step) seen.kept))),
      c.in_ok-go_on.ensures.kept step seen,
    )
