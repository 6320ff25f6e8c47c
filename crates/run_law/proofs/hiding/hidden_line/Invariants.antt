use Rattle.std.proofs.Common.{◌≡◌, drop}
use Rattle.std.specs.List.{find, flat_map}
use Rattle.report_text.specs.declared.report.ClientReport.{ClientReport}
use Rattle.report_text.specs.declared.report.ReplyLine.{ReplyLine}
use Rattle.run_rules.specs.Keeping.{first_hidden, hides}
use Rattle.run_law.proofs.hiding.hidden_line.Given as goal

-- the first is among the replies to clients that were not looked at
abbrev pub invariant-loop-client : goal.invariant-loop-client
invariant-loop-client l =
    first_hidden l.report
    ≡ find (λ (r : ReplyLine). hides r.word r.answer)
    (flat_map (λ (c : ClientReport). c.replies) (drop l.client-index l.client-items))
