use Rattle.report_text.proofs.Outputs.{adds_then}
use Rattle.report_text.proofs.columns.ColumnReportPrinted.print.Goals as goal

pub returns : goal.returns
returns g c =
    let journal = rw c.as_slice.ensures at c.print_journal.ensures in
    let head = adds_then _ _ _ _ _ (adds_then _ _ _ _ _ (adds_then _ _ _ _ _ c.put.ensures c.print.ensures) (adds_then _ _ _ _ _ c.put-2.ensures c.print-2.ensures)) c.put-3.ensures in
    adds_then _ _ _ _ _ (adds_then _ _ _ _ _ head journal) c.print_closing.ensures
