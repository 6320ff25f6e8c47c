use Rattle.std.proofs.Common.{◌≡◌, ◌++◌, map, take, Some}
use Rattle.log_node.specs.Sets.{set_of}
use Rattle.object_fold.specs.Nodes.{shard_of}
use Rattle.lawful_run.specs.Asks.{object_colours, keys_of_pairs}
use Rattle.script_meaning.specs.Transactions.{version_keys}
use Rattle.script_in_order.proofs.transactions.shards_of.Given as goal

-- the shards of the keys so far
abbrev pub invariant-loop-version : goal.invariant-loop-version
invariant-loop-version l =
    l.set ≡ set_of (map (shard_of (object_colours (Some l.kind))) (version_keys (take l.version-index l.versions)))

abbrev pub invariant-loop-pair : goal.invariant-loop-pair
invariant-loop-pair l =
    l.set ≡ set_of (map (shard_of (object_colours (Some l.kind)))
    (version_keys l.versions ++ keys_of_pairs (take l.pair-index l.pairs)))
