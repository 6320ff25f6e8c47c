use Rattle.report_text.proofs.Outputs.{adds_then}
use Rattle.report_text.proofs.columns.print_closing.Goals as goal

pub returns : goal.returns
returns g c = adds_then _ _ _ _ _ (adds_then _ _ _ _ _ (adds_then _ _ _ _ _ (adds_then _ _ _ _ _ (adds_then _ _ _ _ _ (adds_then _ _ _ _ _ (adds_then _ _ _ _ _ (adds_then _ _ _ _ _ (adds_then _ _ _ _ _ (adds_then _ _ _ _ _ c.put.ensures c.put_number.ensures) c.put-2.ensures) c.print_listed.ensures) c.put-3.ensures) c.print_listed-2.ensures) c.put-4.ensures) c.print.ensures) c.put-5.ensures) c.print-2.ensures) c.put-6.ensures
