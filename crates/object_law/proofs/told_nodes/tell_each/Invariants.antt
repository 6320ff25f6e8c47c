use Rattle.std.proofs.Common.{◌≡◌, map, take}
use Rattle.object_fold.specs.Folds.{told_of}
use Rattle.object_law.specs.NodeTables.{nodes_under}
use Rattle.object_law.proofs.told_nodes.tell_each.Given as goal

-- the object has the nodes so far, and what each was told is what it is told by all
abbrev pub invariant-loop-key : goal.invariant-loop-key
invariant-loop-key g l =
    g.F.NodeFold.Holds l.fold (nodes_under l.nodes (take l.key-index l.keys))
    × (l.told.items ≡ map (told_of g.F.NodeFold.told (nodes_under l.nodes l.keys)) (take l.key-index l.keys))
