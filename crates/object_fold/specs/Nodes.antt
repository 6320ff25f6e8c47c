-- Nodes as objects read them, and the shard of a key.
use Rattle.std.specs.Prelude.{ℕ, ◌%◌, not, List, filter, length, map, sum, slice_index}
use Rattle.std.specs.List.{take_while}
use Rattle.log_node.specs.declared.ids.Key.{Key}
use Rattle.log_node.specs.declared.ids.Colours.{Colours}
use Rattle.log_node.specs.declared.node.Node.{Node}
use Rattle.log_node.specs.Order.{same_key}
use Rattle.log_node.specs.Sets.{has}
use Rattle.log_node.specs.Seen.{PlacedNode}

-- a node as an object reads it
pub record ObjectNode : Type 0 where
  pub key : Key
  pub colours : Colours
  pub text : List ℕ

-- of a node that stands under a key
abbrev pub keyed_node : Key → Node → ObjectNode
keyed_node key node = record { key = key; colours = node.colours; text = node.text }

-- of a node as a column has it
abbrev pub object_node : PlacedNode → ObjectNode
object_node item = keyed_node item.head.key item.node

-- nodes as objects read them
abbrev pub object_nodes : List PlacedNode → List ObjectNode
object_nodes nodes = map object_node nodes

-- the nodes of a list before the one with this key
abbrev pub nodes_before : Key → List ObjectNode → List ObjectNode
nodes_before key nodes = take_while (λ node. not (same_key node.key key)) nodes

-- the nodes that have a colour
abbrev pub nodes_of : ℕ → List ObjectNode → List ObjectNode
nodes_of colour nodes = filter (λ node. has node.colours colour) nodes

-- The colour of a key's shard: of the object's colours, in their order, that at the place that is the sum of the key's
-- bytes modulo their number.
abbrev pub shard_of : List ℕ → List ℕ → ℕ
shard_of colours key = slice_index colours (sum key % length colours)
