use Rattle.std.proofs.Common.{ℕ, List, ◌∙◌, arith, refl, ap}
use Rattle.object_fold.specs.Nodes.{shard_of}
use Rattle.log_client.proofs.Object.ObjectShards.{more_shards, all_keys}
use Rattle.log_client.proofs.shard_sets.key_shards.Goals as goal

pub loop-key-init : goal.loop-key-init
loop-key-init c = refl

pub loop-key-preserved : goal.loop-key-preserved
loop-key-preserved c =
    c.with-set.ensures
    ∙ more_shards (λ (k : List ℕ). k) c.args.colours.now c.args.keys.now c.loop-key.key-index c.key-item.result c.loop-key.set
    c.shard_of.result c.loop-key-test.true
    (c.shard_of.ensures ∙ ap (shard_of c.args.colours.now) (c.as_bytes.ensures ∙ c.key-item.is)) c.loop-key.invariant

pub returns : goal.returns
returns c =
    all_keys c.args.colours.now c.args.keys.now c.loop-key.set c.loop-key.key-index (omega (arith, c.loop-key-test.false))
    c.loop-key.invariant
