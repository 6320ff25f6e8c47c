use Rattle.std.proofs.Common.{sym, ap, ◌∙◌}
use Rattle.std.specs.List.{find}
use Rattle.std.specs.Option.{option_copied, option_map}
use Rattle.report_text.specs.declared.report.ClientReport.{ClientReport}
use Rattle.report_text.specs.declared.report.ReplyLine.{ReplyLine}
use Rattle.run_rules.specs.Keeping.{hides}
use Rattle.run_law.proofs.HidingLemmas.{found_here, found_on}
use Rattle.run_law.proofs.hiding.hidden_line.Goals as goal

pub returns-in-Some : goal.returns-in-Some
returns-in-Some c =
    let told =
    ap (find (λ (r : ReplyLine). hides r.word r.answer)) (sym c.as_slice.ensures) ∙ sym c.first_of.ensures
    ∙ ap option_copied c.in-Some.is in
    sym (ap (option_map (λ (r : ReplyLine). r.line)) (c.loop-client.invariant
    ∙ found_here (λ (r : ReplyLine). hides r.word r.answer) (λ (o : ClientReport). o.replies) c.as_slice-client-items.result.now
    c.loop-client.client-index c.client-item.result c.loop-client-test.true c.client-item.is c.in-Some.reply.now told))

pub loop-client-preserved : goal.loop-client-preserved
loop-client-preserved c =
    let told =
    ap (find (λ (r : ReplyLine). hides r.word r.answer)) (sym c.as_slice.ensures) ∙ sym c.first_of.ensures
    ∙ ap option_copied c.in_default.is in
    c.loop-client.invariant
    ∙ found_on (λ (r : ReplyLine). hides r.word r.answer) (λ (o : ClientReport). o.replies) c.as_slice-client-items.result.now
    c.loop-client.client-index c.client-item.result c.loop-client-test.true c.client-item.is told
