use Rattle.report_text.proofs.Outputs.{adds_then}
use Rattle.report_text.proofs.rows.RowReportPrinted.print.Goals as goal

pub returns : goal.returns
returns g c = adds_then _ _ _ _ _ (adds_then _ _ _ _ _ (adds_then _ _ _ _ _ (adds_then _ _ _ _ _ (adds_then _ _ _ _ _ (adds_then _ _ _ _ _ c.put.ensures c.put_region.ensures) (adds_then _ _ _ _ _ c.put-2.ensures (adds_then _ _ _ _ _ c.put_client.ensures (adds_then _ _ _ _ _ c.put-3.ensures c.put_number.ensures)))) (adds_then _ _ _ _ _ c.put-4.ensures c.print.ensures)) c.print_spaced.ensures) (adds_then _ _ _ _ _ c.put-5.ensures c.print-2.ensures)) c.put-6.ensures
