use Rattle.walk_law.proofs.RisingLemmas.{IsRisingOn}
use Rattle.walk_law.proofs.rows.are_rising.Given as goal

abbrev pub invariant-loop-mark : goal.invariant-loop-mark
invariant-loop-mark l = IsRisingOn l.colours l.low l.mark-index l.marks
