use Rattle.std.proofs.Common.{List, ◌++◌, drop, length, ◌≤◌}
use Rattle.std.specs.List.{flat_map}
use Rattle.log_node.specs.Seen.{PlacedNode}
use Rattle.report_text.specs.declared.report.ReplyLine.{ReplyLine}
use Rattle.walk_law.specs.ShownTexts.{AreFirstTexts}
use Rattle.walk_law.proofs.shown_texts.TextTable.put_replies.Given as goal

-- the lines of the replies from here on are put in
abbrev pub invariant-loop-at : goal.invariant-loop-at
invariant-loop-at l =
    (l.at ≤ length l.replies)
    × ((lines : List PlacedNode) → AreFirstTexts lines l.fn.self
    → AreFirstTexts (flat_map (λ (r : ReplyLine). r.nodes) (drop l.at l.replies) ++ lines) l.self)
