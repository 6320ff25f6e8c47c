use Rattle.std.proofs.Common.{◌≡◌, ◌∙◌, subst, sym}
use Rattle.log_node.proofs.CallerLemmas.{same_some}
use Rattle.report_text.specs.declared.report.ReplyLine.{ReplyLine}
use Rattle.lawful_run.specs.Callers.{caller_of}
use Rattle.run_rules.specs.Told.{kept_appending, kept_at}
use Rattle.run_rules.specs.Telling.{replies_to}
use Rattle.walk_law.specs.Fifth.{finding_in}
use Rattle.walk_law.specs.Keepings.{IsCounted}
use Rattle.walk_law.specs.Sixth.{OfStood, StandsSo}
use Rattle.walk_law.specs.Walking.{log_walked}
use Rattle.walk_law.proofs.sixth.StandingCheck.go_on.Goals as goal

pub returns-then-not-stands : goal.returns-then-not-stands
returns-then-not-stands c = λ step seen so.
    let walked = c.args.subject.now in
    let log = log_walked walked in
    let caller = caller_of walked.script c.args.client in
    let same : c.reply.result.now ≡ step.reply = same_some (sym c.reply.ensures ∙ seen.reply) in
    subst (λ (r : ReplyLine). OfStood (StandsSo (finding_in c.args.self.now.rows walked.report.rows) log caller) log caller
    (kept_appending log caller (kept_at step) r.answer) r.answer → ⊥) same
    (c.if-not-stands.ensures (kept_appending log caller (kept_at step) c.reply.result.now.answer)
    (c.in_ok-to_append.ensures.kept (replies_to walked.report c.args.client) (kept_at step) seen.kept)) so

pub returns : goal.returns
returns c = λ step seen.
    let walked = c.args.subject.now in
    let log = log_walked walked in
    let caller = caller_of walked.script c.args.client in
    let same : c.reply.result.now ≡ step.reply = same_some (sym c.reply.ensures ∙ seen.reply) in
    let counted = c.in_ok-to_append.ensures.kept (replies_to walked.report c.args.client) (kept_at step) seen.kept in (
      subst (λ (r : ReplyLine). OfStood (StandsSo (finding_in c.args.self.now.rows walked.report.rows) log caller) log caller
          (kept_appending log caller (kept_at step) r.answer) r.answer) same
          (c.if-not-stands.ensures (kept_appending log caller (kept_at step) c.reply.result.now.answer) counted),
      c.in_ok-from_append.ensures c.args.keeping.now step seen
          (subst (λ (r : ReplyLine). IsCounted (replies_to walked.report c.args.client) (kept_appending log caller (kept_at step) r.answer)
          c.to_append.new.self) same counted),
    )
