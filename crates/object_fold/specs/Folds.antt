-- What of an object is folded: how it goes on, and what a node is told among others.
use Rattle.std.specs.Prelude.{◌≡◌, Bool, true, false, if◌then◌else◌, ℕ, ◌≤◌, List, [], ◌∷◌, ◌++◌, length, take, Option, Some, None}
use Rattle.std.specs.List.{find, fold}
use Rattle.log_node.specs.declared.ids.Key.{Key}
use Rattle.log_node.specs.Order.{key_below, same_key}
use Rattle.log_node.specs.Seen.{PlacedNode}
use Rattle.object_fold.specs.Nodes.{ObjectNode, nodes_before, object_nodes}
use Rattle.object_fold.specs.declared.kept_fold.KeptFold.{KeptFold}

-- ONE LINE

-- The fold is of the first so many nodes of a line.
abbrev pub FoldsFirst : List PlacedNode → ℕ → (List ObjectNode → Type 0) → Type 0
FoldsFirst line count Folds = (count ≤ length line) × Folds (object_nodes (take count line))

-- IN THE ORDER OF A REGION

-- the key comes behind the last one, or there is no last one
abbrev pub is_behind : Option Key → Key → Bool
is_behind None key = true
is_behind (Some last) key = key_below last key

-- the last key after items
abbrev pub last_after : Option Key → List PlacedNode → Option Key
last_after last items = fold (λ (k : Option Key) (item : PlacedNode). Some item.head.key) last items

-- the fold has these nodes more
abbrev pub FeedsAll : {F : Type 0} → (F → List ObjectNode → Type 0) → KeptFold F → KeptFold F → List PlacedNode → Type 0
FeedsAll Holds old new items =
    (new.last ≡ last_after old.last items)
    × ((nodes : List ObjectNode) → Holds old.state nodes → Holds new.state (nodes ++ object_nodes items))

-- the fold has the first of these nodes more
abbrev pub FeedsFirst : {F : Type 0} → (F → List ObjectNode → Type 0) → KeptFold F → KeptFold F → List PlacedNode → Type 0
FeedsFirst Holds old new items = (count : ℕ) × (count ≤ length items) × FeedsAll Holds old new (take count items)

-- the key behind which a fold of a node's answer goes on: the last one, or none where the node was folded already
abbrev pub last_before : Option Key → Key → Option Key
last_before last own = if is_behind last own then last else None

-- no node has this key
abbrev pub IsAbsent : Key → List ObjectNode → Type 0
IsAbsent key [] = Unit {0}
IsAbsent key (node ∷ nodes) = (same_key node.key key ≡ false) × IsAbsent key nodes

-- the node with this key among nodes
abbrev pub node_with : Key → List ObjectNode → Option ObjectNode
node_with key nodes = find (λ node. same_key node.key key) nodes

-- what a node is told behind the nodes before it among these, if there is such a node
abbrev pub told_among : {T : Type 0} → (List ObjectNode → ObjectNode → Option T) → List ObjectNode → Option ObjectNode → Option T
told_among told nodes None = None
told_among told nodes (Some node) = told (nodes_before node.key nodes) node

-- what the node with this key among nodes in rising key is told
abbrev pub told_of : {T : Type 0} → (List ObjectNode → ObjectNode → Option T) → List ObjectNode → Key → Option T
told_of told nodes key = told_among told nodes (node_with key nodes)
