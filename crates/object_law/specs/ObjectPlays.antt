-- Objects that are played from place to place.
use Rattle.std.specs.Prelude.{ℕ, ◌≤◌, List, length, take}
use Rattle.log_node.specs.declared.ids.Key.{Key}
use Rattle.log_node.specs.declared.node.Node.{Node}
use Rattle.object_fold.specs.Nodes.{ObjectNode}
use Rattle.object_law.specs.declared.line_play.LinePlay.{LinePlay}
use Rattle.object_law.specs.declared.region_play.RegionPlay.{RegionPlay}
use Rattle.object_law.specs.NodeTables.{nodes_under}

-- the object is what the first so many nodes of a line leave
abbrev pub HoldsFirst : {F : Type 0} → (F → List ObjectNode → Type 0) → List (List Node) → List Key → F → ℕ → Type 0
HoldsFirst Holds table keys fold count = (count ≤ length keys) × Holds fold (nodes_under table (take count keys))

-- so it is of one that is played from place to place of a line
abbrev pub HoldsLine : {F : Type 0} → (F → List ObjectNode → Type 0) → List (List Node) → List Key → LinePlay F → Type 0
HoldsLine Holds table line play = HoldsFirst Holds table line play.fold play.count

-- and of one that is played in the order of a region
abbrev pub HoldsKeys : {F : Type 0} → (F → List ObjectNode → Type 0) → List (List Node) → List Key → RegionPlay F → Type 0
HoldsKeys Holds table keys play = HoldsFirst Holds table keys play.fold play.count
