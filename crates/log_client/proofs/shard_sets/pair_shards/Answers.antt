use Rattle.std.proofs.Common.{◌∙◌, arith, refl, ap}
use Rattle.log_node.specs.declared.forms.Pair.{Pair}
use Rattle.object_fold.specs.Nodes.{shard_of}
use Rattle.log_client.proofs.Object.ObjectShards.{more_shards, all_shards}
use Rattle.log_client.proofs.shard_sets.pair_shards.Goals as goal

pub loop-pair-init : goal.loop-pair-init
loop-pair-init c = refl

pub loop-pair-preserved : goal.loop-pair-preserved
loop-pair-preserved c =
    c.with-set.ensures
    ∙ more_shards (λ (p : Pair). p.key) c.args.colours.now c.args.pairs.now c.loop-pair.pair-index c.pair-item.result
    c.loop-pair.set c.shard_of.result c.loop-pair-test.true
    (c.shard_of.ensures ∙ ap (shard_of c.args.colours.now) (c.as_bytes.ensures ∙ ap (λ (p : Pair). p.key) c.pair-item.is))
    c.loop-pair.invariant

pub returns : goal.returns
returns c =
    all_shards (λ (p : Pair). p.key) c.args.colours.now c.args.pairs.now c.loop-pair.set c.loop-pair.pair-index
    (omega (arith, c.loop-pair-test.false, c.loop-pair.auto.pair-index-end)) c.loop-pair.invariant
