use Rattle.std.proofs.Common.{List, ◌++◌, map, take}
use Rattle.log_node.specs.declared.ids.Key.{Key}
use Rattle.world_code.specs.WorldView.{world_of}
use Rattle.script_meaning.specs.Dequeues.{object_node_at}
use Rattle.script_in_order.proofs.lines_fold.feed_all.Given as goal

-- the nodes so far
abbrev pub invariant-loop-key : goal.invariant-loop-key
invariant-loop-key g l =
    (before : List Key) → g.F.NodeFold.Holds l.fn.kept.state (map (object_node_at (world_of l.world)) before)
    → g.F.NodeFold.Holds l.kept.state (map (object_node_at (world_of l.world)) (before ++ take l.key-index l.keys))
