use Rattle.report_text.proofs.Outputs.{adds_then}
use Rattle.report_text.proofs.printing.put_refusal.Goals as goal

pub returns : goal.returns
returns g c =
    adds_then _ _ _ _ _ (adds_then _ _ _ _ _ (adds_then _ _ _ _ _ (adds_then _ _ _ _ _ c.put.ensures c.put_number.ensures) c.put-2.ensures) c.put-3.ensures) c.put-4.ensures
