use Rattle.std.proofs.Common.{◌≡◌, take}
use Rattle.std.specs.Prelude.{map}
use Rattle.log_node.specs.Seen.{PlacedNode}
use Rattle.column.proofs.moves.heads_of.Given as goal

-- the heads so far
abbrev pub invariant-loop-item : goal.invariant-loop-item
invariant-loop-item l = l.heads ≡ map (λ (i : PlacedNode). i.head) (take l.item-index l.items)
