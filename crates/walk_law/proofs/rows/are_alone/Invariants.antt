use Rattle.std.proofs.Common.{take}
use Rattle.std.specs.List.{All}
use Rattle.walk_law.specs.RowsBeside.{IsRowAlone}
use Rattle.walk_law.proofs.rows.are_alone.Given as goal

abbrev pub invariant-loop-row : goal.invariant-loop-row
invariant-loop-row l = All (IsRowAlone l.script l.region) (take l.row-index l.rows)
