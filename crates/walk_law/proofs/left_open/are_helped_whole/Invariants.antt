use Rattle.std.proofs.Common.{take}
use Rattle.std.specs.List.{All}
use Rattle.walk_law.specs.LeftOpen.{IsHelpedWhole}
use Rattle.walk_law.proofs.left_open.are_helped_whole.Given as goal

abbrev pub invariant-loop-row : goal.invariant-loop-row
invariant-loop-row l = All (IsHelpedWhole l.region l.columns) (take l.row-index l.rows)
