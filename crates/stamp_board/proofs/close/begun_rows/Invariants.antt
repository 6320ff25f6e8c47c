use Rattle.std.proofs.Common.{◌≡◌, take}
use Rattle.stamp_board.specs.Closing.{all_begun}
use Rattle.stamp_board.proofs.close.begun_rows.Given as goal

abbrev pub invariant-loop-i : goal.invariant-loop-i
invariant-loop-i l = l.rows.items ≡ all_begun (take l.i l.seats)
