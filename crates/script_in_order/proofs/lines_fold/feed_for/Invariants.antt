use Rattle.std.proofs.Common.{List, ◌++◌, map, take}
use Rattle.log_node.specs.declared.ids.Key.{Key}
use Rattle.world_code.specs.WorldView.{world_of}
use Rattle.script_meaning.specs.Dequeues.{object_node_at}
use Rattle.script_in_order.specs.Transacting.{AreOthers}
use Rattle.script_in_order.proofs.LinesFeeds.{IsFound}
use Rattle.script_in_order.proofs.lines_fold.feed_for.Given as goal

-- the nodes so far, and what was found among them
abbrev pub invariant-loop-key : goal.invariant-loop-key
invariant-loop-key g l = record {
  folded : (before : List Key) → g.F.NodeFold.Holds l.fn.kept.state (map (object_node_at (world_of l.world)) before)
      → g.F.NodeFold.Holds l.kept.state (map (object_node_at (world_of l.world)) (before ++ take l.key-index l.keys));
  is_found : (before : List Key) → g.F.NodeFold.Holds l.fn.kept.state (map (object_node_at (world_of l.world)) before)
      → AreOthers l.own before → IsFound g.F.NodeFold.told (world_of l.world) l.own before l.keys l.key-index l.found;
}
