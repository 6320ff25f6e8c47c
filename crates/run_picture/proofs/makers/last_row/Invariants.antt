use Rattle.std.proofs.Common.{◌≡◌, take}
use Rattle.run_picture.specs.Makers.{last_row}
use Rattle.run_picture.proofs.makers.last_row.Given as goal

-- the last of the client's rows so far
abbrev pub invariant-loop-row : goal.invariant-loop-row
invariant-loop-row l = l.last ≡ last_row l.client (take l.row-index l.rows)
