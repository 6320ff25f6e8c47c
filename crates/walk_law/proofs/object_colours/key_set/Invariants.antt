use Rattle.std.proofs.Common.{◌≡◌, List, ℕ, map, take}
use Rattle.log_node.specs.Sets.{set_of}
use Rattle.object_fold.specs.Nodes.{shard_of}
use Rattle.walk_law.proofs.object_colours.key_set.Given as goal

-- the shards of the keys so far
abbrev pub invariant-loop-key : goal.invariant-loop-key
invariant-loop-key l = l.set ≡ set_of (map (λ (x : List ℕ). shard_of l.own x) (take l.key-index l.keys))
