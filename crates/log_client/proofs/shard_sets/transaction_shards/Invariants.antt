use Rattle.std.proofs.Common.{◌≡◌, ◌++◌, List, ℕ, map, take}
use Rattle.log_node.specs.declared.forms.Pair.{Pair}
use Rattle.log_node.specs.declared.forms.Version.{Version}
use Rattle.log_node.specs.Sets.{set_of}
use Rattle.object_fold.specs.Nodes.{shard_of}
use Rattle.log_client.specs.Objects.{version_keys}
use Rattle.log_client.proofs.shard_sets.transaction_shards.Given as goal

-- the shards of the keys that were read so far
abbrev pub invariant-loop-version : goal.invariant-loop-version
invariant-loop-version l = l.set ≡ set_of (map (λ (x : Version). shard_of l.colours x.key) (take l.version-index l.versions))

-- of all of them, and of those that are written so far
abbrev pub invariant-loop-pair : goal.invariant-loop-pair
invariant-loop-pair l =
    l.set ≡ set_of (map (λ (k : List ℕ). shard_of l.colours k) (version_keys l.versions)
    ++ map (λ (x : Pair). shard_of l.colours x.key) (take l.pair-index l.pairs))
