use Rattle.std.proofs.Common.{◌≡◌, ◌++◌, map}
use Rattle.std.specs.List.{range_with_len}
use Rattle.stamp_board.proofs.Ending.{row_of}
use Rattle.stamp_board.proofs.close.push_begun.Given as goal

abbrev pub invariant-loop-number : goal.invariant-loop-number
invariant-loop-number l = l.rows.items ≡ l.fn.rows.items ++ map (row_of l.seat.client) (range_with_len 0 l.number)
