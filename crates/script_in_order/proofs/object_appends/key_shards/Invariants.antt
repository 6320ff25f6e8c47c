use Rattle.std.proofs.Common.{◌≡◌, map, take, Some}
use Rattle.log_node.specs.Sets.{set_of}
use Rattle.object_fold.specs.Nodes.{shard_of}
use Rattle.lawful_run.specs.Asks.{object_colours}
use Rattle.script_in_order.proofs.object_appends.key_shards.Given as goal

-- the shards of the keys so far
abbrev pub invariant-loop-key : goal.invariant-loop-key
invariant-loop-key l =
    l.set ≡ set_of (map (shard_of (object_colours (Some l.kind))) (take l.key-index l.keys))
