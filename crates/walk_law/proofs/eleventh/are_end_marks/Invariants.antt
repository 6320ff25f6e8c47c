use Rattle.std.proofs.Common.{take}
use Rattle.std.specs.List.{All}
use Rattle.walk_law.specs.Eleventh.{IsEndMark}
use Rattle.walk_law.proofs.eleventh.are_end_marks.Given as goal

-- all so far
abbrev pub invariant-loop-mark : goal.invariant-loop-mark
invariant-loop-mark l = All (IsEndMark l.colour) (take l.mark-index l.marks)
