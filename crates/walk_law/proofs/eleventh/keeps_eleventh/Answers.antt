use Rattle.std.proofs.Common.{Bool, subst}
use Rattle.log_node.proofs.CallerLemmas.{ok_then}
use Rattle.script_text.specs.declared.script.Script.{Script}
use Rattle.report_text.specs.declared.report.Report.{Report}
use Rattle.column_track.specs.Tracks.{Tells}
use Rattle.run_rules.specs.Deciding.{account_showing}
use Rattle.run_rules.specs.Shown.{Rule11}
use Rattle.walk_law.specs.Eleventh.{AreOpenIds, HasItsCause, looks_in}
use Rattle.walk_law.specs.RowPlaces.{AreRowPlaces}
use Rattle.walk_law.specs.Walking.{DecidesEachStep}
use Rattle.walk_law.proofs.CauseSteps.{eleventh_told}
use Rattle.walk_law.proofs.eleventh.keeps_eleventh.Goals as goal

pub returns : goal.returns
returns c =
    let walked = c.args.subject.now in
    let may = c.agrees.ensures.may in
    let causes = c.in_ok-causes.causes in
    let report = c.report.result.now in
    ok_then c.each_step.result
    (DecidesEachStep walked (λ caller step. HasItsCause (looks_in causes walked.report.rows) walked caller step))
    (λ (b : Bool). Tells b (Rule11 walked.script walked.report (account_showing walked.script walked.report)))
    (λ b told. eleventh_told walked.script walked.report causes
    (subst (λ (r : Report). AreRowPlaces r.rows causes.places) c.report.ensures c.in_ok-causes.ensures.rows)
    (subst (λ (r : Report). AreOpenIds walked.script.shape.regions r.columns causes.open.items) c.report.ensures
    (subst (λ (s : Script). AreOpenIds s.shape.regions report.columns causes.open.items) c.script.ensures c.in_ok-causes.ensures.open))
    may.1.first.columns c.eleventh_is_causes.ensures may.0 may.1 c.requires b told) c.each_step.ensures
