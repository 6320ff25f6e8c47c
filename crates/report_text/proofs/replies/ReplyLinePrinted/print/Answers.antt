use Rattle.report_text.proofs.Outputs.{adds_then}
use Rattle.report_text.proofs.replies.ReplyLinePrinted.print.Goals as goal

pub returns : goal.returns
returns g c = adds_then _ _ _ _ _ (adds_then _ _ _ _ _ (adds_then _ _ _ _ _ (adds_then _ _ _ _ _ c.put_number.ensures (adds_then _ _ _ _ _ c.put.ensures c.put_word.ensures)) (adds_then _ _ _ _ _ c.put-2.ensures c.print.ensures)) c.put-3.ensures) c.print_each.ensures
