use Rattle.std.proofs.Common.{take}
use Rattle.object_fold.specs.Nodes.{object_nodes}
use Rattle.object_fold.specs.Folds.{FeedsAll, IsAbsent}
use Rattle.object_fold.proofs.kept_fold.KeptFold.told.Given as goal

-- the nodes so far are folded, and none is the own one
abbrev pub invariant-loop-item : goal.invariant-loop-item
invariant-loop-item g l = record {
  feeds : FeedsAll g.F.NodeFold.Holds l.fn.self l.self (take l.item-index l.items);
  others : IsAbsent l.own (object_nodes (take l.item-index l.items));
}
