use Rattle.std.proofs.Common.{take}
use Rattle.object_fold.specs.Folds.{FeedsAll}
use Rattle.object_fold.proofs.kept_fold.KeptFold.fold_on.Given as goal

-- the nodes so far are folded
abbrev pub invariant-loop-item : goal.invariant-loop-item
invariant-loop-item g l = FeedsAll g.F.NodeFold.Holds l.fn.self l.self (take l.item-index l.items)
