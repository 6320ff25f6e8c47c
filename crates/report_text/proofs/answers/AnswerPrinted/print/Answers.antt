use Rattle.report_text.proofs.Outputs.{adds_then}
use Rattle.report_text.proofs.answers.AnswerPrinted.print.Goals as goal

pub returns-in-GotKeys : goal.returns-in-GotKeys
returns-in-GotKeys g c =
    rw c.in-GotKeys.is
    (adds_then _ _ _ _ _ (adds_then _ _ _ _ _ (adds_then _ _ _ _ _ c.put-in-GotKeys.ensures c.put_number-in-GotKeys.ensures) c.print_spaced.ensures) c.print_read-in-GotKeys.ensures)

pub returns-in-Decided : goal.returns-in-Decided
returns-in-Decided g c =
    let verdict = adds_then _ _ _ _ _ c.print_decision.ensures (adds_then _ _ _ _ _ c.put-in-Decided.ensures c.print-in-Decided.ensures) in
    let stamped = adds_then _ _ _ _ _ (adds_then _ _ _ _ _ verdict c.put-in-Decided-2.ensures) c.put_number-in-Decided.ensures in
    let read = adds_then _ _ _ _ _ stamped c.print_read-in-Decided.ensures in
    rw c.in-Decided.is
    (adds_then _ _ _ _ _ read (adds_then _ _ _ _ _ c.put-in-Decided-3.ensures c.print-in-Decided-2.ensures))
