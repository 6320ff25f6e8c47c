use Rattle.std.proofs.Common.{take}
use Rattle.walk_law.specs.RowsBeside.{AreRowsAt}
use Rattle.walk_law.proofs.row_table.RowTable.of_rows.Given as goal

-- the places of the rows so far
abbrev pub invariant-loop-at : goal.invariant-loop-at
invariant-loop-at l = AreRowsAt (take l.at l.rows) l.table
