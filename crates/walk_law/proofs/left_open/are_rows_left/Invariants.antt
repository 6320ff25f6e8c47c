use Rattle.std.proofs.Common.{take}
use Rattle.std.specs.List.{All}
use Rattle.walk_law.specs.LeftOpen.{IsRowLeft}
use Rattle.walk_law.proofs.left_open.are_rows_left.Given as goal

abbrev pub invariant-loop-row : goal.invariant-loop-row
invariant-loop-row l = All (IsRowLeft l.report) (take l.row-index l.rows)
