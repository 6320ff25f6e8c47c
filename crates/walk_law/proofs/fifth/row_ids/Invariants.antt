use Rattle.std.proofs.Common.{◌≡◌, length, take}
use Rattle.walk_law.specs.Fifth.{AreRowIds}
use Rattle.walk_law.proofs.fifth.row_ids.Given as goal

-- those of the rows so far
abbrev pub invariant-loop-row : goal.invariant-loop-row
invariant-loop-row l = (length l.ids ≡ length l.script.shape.homes) × AreRowIds l.script (take l.row-index l.rows) l.ids
