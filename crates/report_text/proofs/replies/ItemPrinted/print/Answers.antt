use Rattle.report_text.proofs.Outputs.{adds_then}
use Rattle.report_text.proofs.replies.ItemPrinted.print.Goals as goal

pub returns : goal.returns
returns g c =
    rw (← c.key_of-key.ensures, ← c.node.ensures)
    (adds_then _ _ _ _ _ (adds_then _ _ _ _ _ (adds_then _ _ _ _ _ (adds_then _ _ _ _ _ c.put.ensures c.print.ensures) (adds_then _ _ _ _ _ c.put-2.ensures c.put_number.ensures)) (adds_then _ _ _ _ _ c.put-3.ensures c.print-2.ensures)) c.put-4.ensures)
