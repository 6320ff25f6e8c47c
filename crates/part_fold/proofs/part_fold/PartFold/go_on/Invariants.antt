use Rattle.std.proofs.Common.{◌≡◌, ◌≤◌, List, length}
use Rattle.part_fold.specs.declared.decision.Decision.{Decision}
use Rattle.part_fold.specs.declared.transaction.Transaction.{Transaction}
use Rattle.part_fold.specs.declared.part_fold.PartFold.{PartFold}
use Rattle.part_fold.specs.Waits.{pairs_in}
use Rattle.part_fold.specs.PartStates.{Holds}
use Rattle.part_fold.proofs.part_fold.PartFold.go_on.Given as goal

-- what was held is held, and there is room for all that waits
pub record GoesOn (old new : PartFold) : Type 0 where
  pub room : pairs_in new.waiting ≤ new.written.spare
  pub part : new.part ≡ old.part
  pub holds : (said : List Decision) (txs : List Transaction) → Holds old said txs → Holds new said txs

abbrev pub invariant-loop-commits : goal.invariant-loop-commits
invariant-loop-commits l = GoesOn l.fn.self l.self

abbrev pub decreases-loop-commits : goal.decreases-loop-commits
decreases-loop-commits l = length l.self.waiting
