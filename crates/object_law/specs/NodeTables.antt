-- Nodes in a table by client, and what objects read of them.
use Rattle.std.specs.Prelude.{◌≡◌, ℕ, List, [], ◌∷◌, Option, slice_get, slice_index_or}
use Rattle.std.specs.List.{flat_map}
use Rattle.log_node.specs.declared.ids.Id.{Id}
use Rattle.log_node.specs.declared.ids.Key.{Key}
use Rattle.log_node.specs.declared.node.Node.{Node}
use Rattle.object_fold.specs.Nodes.{ObjectNode}
use Rattle.run_rules.specs.Computing.{node_read}

-- the nodes of a client
abbrev pub nodes_at : List (List Node) → ℕ → List Node
nodes_at table client = slice_index_or table client []

-- the node with this id, where there is one
abbrev pub node_in : List (List Node) → Id → Option Node
node_in table id = slice_get (nodes_at table id.client) id.count

-- under the number of each client are its nodes
abbrev pub AreNodes : (ℕ → List Node) → List (List Node) → Type 0
AreNodes nodes table = (client : ℕ) → nodes_at table client ≡ nodes client

-- the nodes with these keys, as objects read them
abbrev pub nodes_under : List (List Node) → List Key → List ObjectNode
nodes_under table keys = flat_map (λ (key : Key). node_read key (node_in table key.id)) keys
