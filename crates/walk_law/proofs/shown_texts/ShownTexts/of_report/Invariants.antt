use Rattle.std.proofs.Common.{[], ◌++◌, drop, length, ◌≤◌}
use Rattle.std.specs.List.{flat_map}
use Rattle.report_text.specs.declared.report.ClientReport.{ClientReport}
use Rattle.report_text.specs.declared.report.ReplyLine.{ReplyLine}
use Rattle.walk_law.specs.ShownTexts.{AreFirstTexts}
use Rattle.walk_law.proofs.shown_texts.ShownTexts.of_report.Given as goal

-- the lines of the clients from here on are put in
abbrev pub invariant-loop-at : goal.invariant-loop-at
invariant-loop-at l =
    (l.at ≤ length l.clients)
    × AreFirstTexts (flat_map (λ (c : ClientReport). flat_map (λ (r : ReplyLine). r.nodes) c.replies) (drop l.at l.clients) ++ []) l.table
