use Rattle.std.proofs.Common.{take}
use Rattle.std.specs.List.{All}
use Rattle.walk_law.specs.RowsBeside.{IsMarkedBeside}
use Rattle.walk_law.proofs.rows.are_marked.Given as goal

abbrev pub invariant-loop-at : goal.invariant-loop-at
invariant-loop-at l = All (IsMarkedBeside l.columns) (take l.at l.rows)
