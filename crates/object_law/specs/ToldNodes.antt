-- What nodes are told among others, and the places of keys.
use Rattle.std.specs.Prelude.{◌≡◌, false, ℕ, List, [], ◌∷◌, map, Option, Some, None, slice_get}
use Rattle.std.specs.List.{Contains}
use Rattle.log_node.specs.declared.ids.Key.{Key}
use Rattle.log_node.specs.declared.node.Node.{Node}
use Rattle.log_node.specs.Order.{same_key}
use Rattle.object_fold.specs.Folds.{told_of}
use Rattle.object_fold.specs.Nodes.{ObjectNode}
use Rattle.object_law.specs.NodeTables.{nodes_under}

-- what the first of some nodes is told behind these ones
abbrev pub told_next : {T : Type 0} → (List ObjectNode → ObjectNode → Option T) → List ObjectNode → List ObjectNode → Option T
told_next telling nodes [] = None
told_next telling nodes (node ∷ more) = telling nodes node

-- what each of the nodes with these keys is told, by all of them
abbrev pub told_each : {T : Type 0} → (List ObjectNode → ObjectNode → Option T) → List (List Node) → List Key → List (Option T)
told_each telling table keys = map (told_of telling (nodes_under table keys)) keys

-- the key is that in this place; or it is none of them
abbrev pub HasPlace : List Key → Key → Option ℕ → Type 0
HasPlace keys key None = (other : Key) → Contains keys other → same_key other key ≡ false
HasPlace keys key (Some place) = slice_get keys place ≡ Some key
