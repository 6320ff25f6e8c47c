use Rattle.std.proofs.Common.{◌≡◌, take, map}
use Rattle.walk_law.specs.RowsBeside.{floor_beside}
use Rattle.walk_law.proofs.rows.floors_of.Given as goal

abbrev pub invariant-loop-row : goal.invariant-loop-row
invariant-loop-row l = l.floors.items ≡ map (floor_beside l.columns) (take l.row-index l.rows)
