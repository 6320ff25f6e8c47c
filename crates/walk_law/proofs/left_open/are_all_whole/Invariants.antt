use Rattle.walk_law.specs.LeftOpen.{AreAllWhole}
use Rattle.walk_law.proofs.left_open.are_all_whole.Given as goal

abbrev pub invariant-loop-region : goal.invariant-loop-region
invariant-loop-region l = AreAllWhole l.region l.columns l.rows
