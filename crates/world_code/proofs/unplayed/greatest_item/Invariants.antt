use Rattle.std.proofs.Common.{◌≡◌, take, map}
use Rattle.log_node.specs.Seen.{PlacedNode}
use Rattle.log_node.specs.Outcomes.{greatest}
use Rattle.world_code.proofs.unplayed.greatest_item.Given as goal

-- the greatest stamp so far
abbrev pub invariant-loop-item : goal.invariant-loop-item
invariant-loop-item l = l.most ≡ greatest (map (λ (i : PlacedNode). i.head.key.stamp) (take l.item-index l.item-items))
