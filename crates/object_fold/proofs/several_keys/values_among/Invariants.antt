use Rattle.std.proofs.Common.{◌≡◌, map, take}
use Rattle.object_fold.specs.Nodes.{object_node}
use Rattle.object_fold.specs.Maps.{values_among}
use Rattle.object_fold.proofs.several_keys.values_among.Given as goal

abbrev pub invariant-loop-key : goal.invariant-loop-key
invariant-loop-key l = l.values ≡ values_among l.colours (map object_node l.nodes) (take l.key-index l.keys)
