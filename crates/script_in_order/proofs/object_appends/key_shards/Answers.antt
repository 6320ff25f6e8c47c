use Rattle.std.proofs.Common.{◌<◌, ◌∙◌, ℕ, Some, arith, refl, ap, sym, subst}
use Rattle.log_node.specs.declared.limits.TheConstants.{MAX_COLOURS}
use Rattle.object_fold.specs.Nodes.{shard_of}
use Rattle.lawful_run.specs.Asks.{object_colours}
use Rattle.script_meaning.proofs.CallerLemmas.{shard_below}
use Rattle.script_in_order.proofs.ObjectSteps.{more_keys, all_keys}
use Rattle.script_in_order.proofs.object_appends.key_shards.Goals as goal

pub loop-key-init : goal.loop-key-init
loop-key-init c = refl

pub with-set-requires : goal.with-set-requires
with-set-requires c =
    subst (λ (x : ℕ). x < MAX_COLOURS) (sym c.shard.ensures)
    (shard_below MAX_COLOURS (object_colours (Some c.args.kind.now)) c.requires.some c.requires.below c.as_bytes.result.now)

pub loop-key-preserved : goal.loop-key-preserved
loop-key-preserved c =
    let colours = object_colours (Some c.args.kind.now) in
    more_keys colours c.args.keys.now c.loop-key.key-index c.key-item.result c.loop-key.set c.with-set.result
    c.shard.result c.loop-key-test.true
    (c.shard.ensures ∙ ap (shard_of colours) (c.as_bytes.ensures ∙ c.key-item.is)) c.with-set.ensures
    c.loop-key.invariant

pub returns : goal.returns
returns c =
    all_keys (object_colours (Some c.args.kind.now)) c.requires c.args.keys.now c.loop-key.set
    c.loop-key.key-index (omega (arith, c.loop-key-test.false)) c.loop-key.invariant
