use Rattle.std.proofs.Common.{◌≡◌, map, take}
use Rattle.object_fold.specs.Nodes.{object_node}
use Rattle.object_fold.specs.Maps.{value_among}
use Rattle.object_fold.proofs.several_keys.value_among.Given as goal

abbrev pub invariant-loop-item : goal.invariant-loop-item
invariant-loop-item l = l.value ≡ value_among l.colours (map object_node (take l.item-index l.nodes)) l.key
