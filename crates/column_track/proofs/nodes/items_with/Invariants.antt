use Rattle.std.proofs.Common.{◌≡◌, take}
use Rattle.std.specs.Prelude.{map}
use Rattle.log_node.specs.Seen.{PlacedNode}
use Rattle.column_track.proofs.nodes.items_with.Given as goal

-- the heads so far
abbrev pub invariant-loop-head : goal.invariant-loop-head
invariant-loop-head l = map (λ (i : PlacedNode). i.head) l.items.items ≡ take l.head-index l.heads
