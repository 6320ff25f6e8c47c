use Rattle.std.proofs.Common.{◌<◌, ◌∙◌, ℕ, [], Some, arith, refl, ap, sym, subst}
use Rattle.log_node.specs.declared.limits.TheConstants.{MAX_COLOURS}
use Rattle.object_fold.specs.Nodes.{shard_of}
use Rattle.lawful_run.specs.Asks.{object_colours}
use Rattle.script_meaning.proofs.CallerLemmas.{shard_below}
use Rattle.script_in_order.proofs.ObjectSteps.{more_pairs, all_pairs}
use Rattle.script_in_order.proofs.object_appends.pair_shards.Goals as goal

pub loop-pair-init : goal.loop-pair-init
loop-pair-init c = refl

pub with-set-requires : goal.with-set-requires
with-set-requires c =
    subst (λ (x : ℕ). x < MAX_COLOURS) (sym c.shard.ensures)
    (shard_below MAX_COLOURS (object_colours (Some c.args.kind.now)) c.requires.some c.requires.below c.as_bytes.result.now)

pub loop-pair-preserved : goal.loop-pair-preserved
loop-pair-preserved c =
    let colours = object_colours (Some c.args.kind.now) in
    more_pairs colours [] c.args.pairs.now c.loop-pair.pair-index c.pair-item.result c.loop-pair.set c.with-set.result
    c.shard.result c.loop-pair-test.true
    (c.shard.ensures ∙ ap (shard_of colours) (c.as_bytes.ensures ∙ ap (λ p. p.key) c.pair-item.is)) c.with-set.ensures
    c.loop-pair.invariant

pub returns : goal.returns
returns c =
    all_pairs (object_colours (Some c.args.kind.now)) c.requires [] c.args.pairs.now c.loop-pair.set
    c.loop-pair.pair-index (omega (arith, c.loop-pair-test.false, c.loop-pair.auto.pair-index-end)) c.loop-pair.invariant
