use Rattle.std.proofs.Common.{◌∙◌, List, ap, subst}
use Rattle.log_node.proofs.CallerLemmas.{ok_then}
use Rattle.report_text.specs.declared.report.ColumnReport.{ColumnReport}
use Rattle.report_text.specs.declared.report.Report.{Report}
use Rattle.report_text.specs.declared.report.RowReport.{RowReport}
use Rattle.walk_law.specs.RowPlaces.{AreRowPlaces}
use Rattle.walk_law.specs.Seventh.{AreOpenTables}
use Rattle.walk_law.proofs.SeventhLemmas.{seventh_told}
use Rattle.walk_law.proofs.seventh.keeps_seventh.Goals as goal

pub returns : goal.returns
returns c =
    let may = c.agrees.ensures.may in
    ok_then c.each_step.result _ _
    (seventh_told c.seventh_is_stopping.ensures c.args.subject.now may.0 may.1 c.in_ok-rows.rows
    (subst (λ (l : List RowReport). AreRowPlaces l c.in_ok-rows.rows)
    (c.as_slice.ensures ∙ ap (λ (r : Report). r.rows) c.report.ensures) c.in_ok-rows.ensures) c.in_ok-open.open.items
    (subst (λ (l : List ColumnReport). AreOpenTables l c.in_ok-open.open.items)
    (c.as_slice-2.ensures ∙ ap (λ (r : Report). r.columns) c.report-2.ensures) c.in_ok-open.ensures) c.requires)
    c.each_step.ensures
