use Rattle.std.proofs.Common.{subst, sym}
use Rattle.log_node.proofs.CallerLemmas.{ok_then}
use Rattle.report_text.specs.declared.report.Report.{Report}
use Rattle.run_rules.specs.Said.{nodes_shown}
use Rattle.run_rules.specs.Shown.{Rule9}
use Rattle.run_rules.specs.Told.{OfEachStep}
use Rattle.run_rules.specs.Telling.{account_of}
use Rattle.walk_law.specs.Ninth.{StepShows}
use Rattle.walk_law.proofs.Members.{told_as}
use Rattle.walk_law.proofs.ninth.keeps_shown.Goals as goal

pub returns : goal.returns
returns c =
    let walked = c.args.subject.now in
    let script = walked.script in
    let report = walked.report in
    let account = account_of script report (nodes_shown script report) in
    let may = c.agrees.ensures.may.1 in
    let law = c.ninth_is_shown.ensures script report may.fitting may.formed c.requires.rules in
    ok_then c.each_step.result _ _
    (λ b decides.
    told_as b (OfEachStep script report account (StepShows script report c.args.texts.now)) (Rule9 script report account)
    (λ all. law.0 (subst (λ (r : Report). OfEachStep script report account (StepShows script report r)) c.requires.texts all))
    (λ ninth. subst (λ (r : Report). OfEachStep script report account (StepShows script report r)) (sym c.requires.texts) (law.1 ninth))
    (decides (nodes_shown script report))) c.each_step.ensures
