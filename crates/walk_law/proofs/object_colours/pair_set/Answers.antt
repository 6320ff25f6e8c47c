use Rattle.std.proofs.Common.{ℕ, ◌<◌, sym, subst, ◌∙◌, arith, refl, ap}
use Rattle.log_node.specs.declared.forms.Pair.{Pair}
use Rattle.log_node.specs.declared.limits.TheConstants.{MAX_COLOURS}
use Rattle.object_fold.specs.Nodes.{shard_of}
use Rattle.walk_law.specs.Asking.{colours_in, shards_of}
use Rattle.walk_law.proofs.Shards.{more_shards, all_shards, shard_low}
use Rattle.walk_law.proofs.object_colours.pair_set.Goals as goal

pub loop-pair-init : goal.loop-pair-init
loop-pair-init c = refl

pub with-set-requires : goal.with-set-requires
with-set-requires c =
    subst (λ (x : ℕ). x < MAX_COLOURS) (sym c.shard_of.ensures)
    (shard_low c.args.own.now c.as_bytes.result.now c.requires)

pub loop-pair-preserved : goal.loop-pair-preserved
loop-pair-preserved c =
    c.with-set.ensures
    ∙ more_shards (λ (p : Pair). p.key) c.args.own.now c.args.pairs.now c.loop-pair.pair-index c.pair-item.result
    c.loop-pair.set c.shard_of.result c.loop-pair-test.true
    (c.shard_of.ensures ∙ ap (shard_of c.args.own.now) (c.as_bytes.ensures ∙ ap (λ (p : Pair). p.key) c.pair-item.is))
    c.loop-pair.invariant

pub returns : goal.returns
unfolding colours_in shards_of
returns c =
    all_shards (λ (p : Pair). p.key) c.args.own.now c.args.pairs.now c.loop-pair.set c.loop-pair.pair-index
    (omega (arith, c.loop-pair-test.false, c.loop-pair.auto.pair-index-end)) c.loop-pair.invariant
