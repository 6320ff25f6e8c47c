use Rattle.std.proofs.Common.{take}
use Rattle.std.specs.List.{All}
use Rattle.walk_law.specs.LeftOpen.{IsLeftBy}
use Rattle.walk_law.proofs.left_open.is_column_left.Given as goal

abbrev pub invariant-loop-shown : goal.invariant-loop-shown
invariant-loop-shown l = All (IsLeftBy l.report) (take l.shown-index l.queue)
