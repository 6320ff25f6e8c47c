use Rattle.std.proofs.Common.{◌∙◌, List, ap, subst}
use Rattle.log_node.proofs.CallerLemmas.{ok_then}
use Rattle.report_text.specs.declared.report.Report.{Report}
use Rattle.report_text.specs.declared.report.RowReport.{RowReport}
use Rattle.walk_law.specs.RowPlaces.{AreRowPlaces}
use Rattle.walk_law.proofs.SixthLemmas.{sixth_told}
use Rattle.walk_law.proofs.sixth.keeps_sixth.Goals as goal

pub returns : goal.returns
returns c =
    let may = c.agrees.ensures.may.1 in
    ok_then c.each_step.result _ _
    (sixth_told c.sixth_is_standing.ensures c.args.subject.now c.in_ok-rows.rows may.fitting may.formed
    (subst (λ (l : List RowReport). AreRowPlaces l c.in_ok-rows.rows) (c.as_slice.ensures ∙ ap (λ (r : Report). r.rows) c.report.ensures) c.in_ok-rows.ensures) c.requires)
    c.each_step.ensures
