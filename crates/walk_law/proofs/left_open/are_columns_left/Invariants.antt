use Rattle.std.proofs.Common.{take}
use Rattle.std.specs.List.{All}
use Rattle.walk_law.specs.LeftOpen.{IsColumnLeft}
use Rattle.walk_law.proofs.left_open.are_columns_left.Given as goal

abbrev pub invariant-loop-column : goal.invariant-loop-column
invariant-loop-column l = All (IsColumnLeft l.report) (take l.column-index l.columns)
