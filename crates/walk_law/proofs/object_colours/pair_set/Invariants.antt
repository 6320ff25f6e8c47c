use Rattle.std.proofs.Common.{◌≡◌, map, take}
use Rattle.log_node.specs.declared.forms.Pair.{Pair}
use Rattle.log_node.specs.Sets.{set_of}
use Rattle.object_fold.specs.Nodes.{shard_of}
use Rattle.walk_law.proofs.object_colours.pair_set.Given as goal

-- the shards of the keys so far
abbrev pub invariant-loop-pair : goal.invariant-loop-pair
invariant-loop-pair l = l.set ≡ set_of (map (λ (x : Pair). shard_of l.own x.key) (take l.pair-index l.pairs))
