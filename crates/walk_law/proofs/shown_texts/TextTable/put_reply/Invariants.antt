use Rattle.std.proofs.Common.{List, ◌++◌, drop, length, ◌≤◌}
use Rattle.log_node.specs.Seen.{PlacedNode}
use Rattle.walk_law.specs.ShownTexts.{AreFirstTexts}
use Rattle.walk_law.proofs.shown_texts.TextTable.put_reply.Given as goal

-- the lines from here on are put in
abbrev pub invariant-loop-at : goal.invariant-loop-at
invariant-loop-at l =
    (l.at ≤ length l.items)
    × ((lines : List PlacedNode) → AreFirstTexts lines l.fn.self → AreFirstTexts (drop l.at l.items ++ lines) l.self)
