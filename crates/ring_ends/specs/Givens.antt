-- Nodes that are handed from region to region.
use Rattle.std.specs.Prelude.{◌≡◌, ℕ, ◌≤◌, List, Some, slice_get}
use Rattle.log_node.specs.declared.limits.TheConstants.{MAX_STAMP}
use Rattle.log_node.specs.Seen.{PlacedNode}

-- the node is of the region and has its head's id, which has a stamp that there is
abbrev pub IsOfItsHead : ℕ → PlacedNode → Type 0
IsOfItsHead region i =
    (i.node.id ≡ i.head.key.id) × (i.head.key.stamp ≤ MAX_STAMP) × (i.node.region ≡ region)

-- each of the nodes is
abbrev pub OfTheirHeads : ℕ → List PlacedNode → Type 0
OfTheirHeads region items = (n : ℕ) (i : PlacedNode) → slice_get items n ≡ Some i → IsOfItsHead region i

-- the first of the nodes, if there is one, is not
abbrev pub BeginsOtherwise : ℕ → List PlacedNode → Type 0
BeginsOtherwise region items = (i : PlacedNode) → slice_get items 0 ≡ Some i → IsOfItsHead region i → ⊥
