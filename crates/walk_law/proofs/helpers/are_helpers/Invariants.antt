use Rattle.std.proofs.Common.{take}
use Rattle.std.specs.List.{All}
use Rattle.walk_law.specs.Fourth.{AreHelpers}
use Rattle.walk_law.proofs.helpers.are_helpers.Given as goal

-- in the columns so far
abbrev pub invariant-loop-column : goal.invariant-loop-column
invariant-loop-column l = All (AreHelpers l.subject.script) (take l.column-index l.column-items)
