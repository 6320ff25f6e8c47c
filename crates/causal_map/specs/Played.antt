-- The nodes that a client has played of a colour, as a causal map reads them.
use Rattle.std.specs.Prelude.{◌≡◌, ℕ, ◌==◌, ◌<◌, ◌≤◌, List, [], ◌∷◌, ◌++◌, length, take, Some, slice_get, count_by}
use Rattle.log_node.specs.Seen.{PlacedNode}
use Rattle.log_node.specs.Vectors.{at}
use Rattle.object_fold.specs.Causal.{ChainNode}
use Rattle.object_fold.specs.declared.causal_map.CausalMap.{CausalMap}
use Rattle.object_fold.specs.CausalStates.{IsCausalMap}

-- A node that was played after these: it stands in its region's chain behind those of them that are of the region.
abbrev pub chain_node : List PlacedNode → PlacedNode → ChainNode
chain_node earlier item = record {
  region = item.node.region;
  position = count_by (λ (other : PlacedNode). other.node.region == item.node.region) earlier;
  needs = item.head.needs;
  text = item.node.text;
}

-- nodes that were played after these, each as it stands in its chain
abbrev pub chain_nodes_after : List PlacedNode → List PlacedNode → List ChainNode
chain_nodes_after earlier [] = []
chain_nodes_after earlier (item ∷ items) = chain_node earlier item ∷ chain_nodes_after (earlier ++ item ∷ []) items

-- nodes in the order in which they were played, as a causal map reads them
abbrev pub chain_nodes : List PlacedNode → List ChainNode
chain_nodes items = chain_nodes_after [] items

-- how many of them are of a region
abbrev pub count_of : ℕ → List PlacedNode → ℕ
count_of region items = count_by (λ (item : PlacedNode). item.node.region == region) items

-- each of them could be played after those before it: its needs count these alone
abbrev pub AreInCausalOrder : List PlacedNode → Type 0
AreInCausalOrder items = (n : ℕ) (item : PlacedNode) → slice_get items n ≡ Some item
    → (item.node.region < 4)
    × ((region : ℕ) → region < 4 → at item.head.needs region ≤ count_of region (take n items))

-- what the map was fed are the first of these nodes
abbrev pub KeepsFirst : List PlacedNode → CausalMap → Type 0
KeepsFirst items map = (count : ℕ) × (count ≤ length items) × IsCausalMap map (take count (chain_nodes items))
