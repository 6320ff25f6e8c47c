use Rattle.std.proofs.Common.{◌<◌, sym, subst, ℕ, List, ◌∙◌, arith, refl, ap}
use Rattle.log_node.specs.declared.limits.TheConstants.{MAX_COLOURS}
use Rattle.object_fold.specs.Nodes.{shard_of}
use Rattle.walk_law.specs.Asking.{colours_in, shards_of}
use Rattle.walk_law.proofs.Shards.{more_shards, all_keys, shard_low}
use Rattle.walk_law.proofs.object_colours.key_set.Goals as goal

pub loop-key-init : goal.loop-key-init
loop-key-init c = refl

pub with-set-requires : goal.with-set-requires
with-set-requires c =
    subst (λ (x : ℕ). x < MAX_COLOURS) (sym c.shard_of.ensures)
    (shard_low c.args.own.now c.as_bytes.result.now c.requires)

pub loop-key-preserved : goal.loop-key-preserved
loop-key-preserved c =
    c.with-set.ensures
    ∙ more_shards (λ (k : List ℕ). k) c.args.own.now c.args.keys.now c.loop-key.key-index c.key-item.result c.loop-key.set
    c.shard_of.result c.loop-key-test.true
    (c.shard_of.ensures ∙ ap (shard_of c.args.own.now) (c.as_bytes.ensures ∙ c.key-item.is)) c.loop-key.invariant

pub returns : goal.returns
unfolding colours_in shards_of
returns c =
    all_keys c.args.own.now c.args.keys.now c.loop-key.set c.loop-key.key-index (omega (arith, c.loop-key-test.false))
    c.loop-key.invariant
