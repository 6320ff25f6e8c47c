use Rattle.std.proofs.Common.{◌<◌, ◌∙◌, ℕ, Some, refl, ap, sym, subst}
use Rattle.log_node.specs.declared.limits.TheConstants.{MAX_COLOURS}
use Rattle.object_fold.specs.Nodes.{shard_of}
use Rattle.lawful_run.specs.Asks.{object_colours}
use Rattle.script_meaning.specs.Transactions.{version_keys}
use Rattle.script_meaning.proofs.CallerLemmas.{shard_below}
use Rattle.script_in_order.proofs.ObjectSteps.{more_versions, all_versions, more_pairs, all_pairs}
use Rattle.script_in_order.proofs.transactions.shards_of.Goals as goal

pub loop-version-init : goal.loop-version-init
loop-version-init c = refl

pub with-set-requires : goal.with-set-requires
with-set-requires c =
    subst (λ (x : ℕ). x < MAX_COLOURS) (sym c.shard.ensures)
    (shard_below MAX_COLOURS (object_colours (Some c.args.kind.now)) c.requires.some c.requires.below c.as_bytes.result.now)

pub loop-version-preserved : goal.loop-version-preserved
loop-version-preserved c =
    let colours = object_colours (Some c.args.kind.now) in
    more_versions colours c.args.versions.now c.loop-version.version-index c.version-item.result
    c.loop-version.set c.with-set.result c.shard.result c.loop-version-test.true
    (c.shard.ensures ∙ ap (shard_of colours) (c.as_bytes.ensures ∙ ap (λ v. v.key) c.version-item.is)) c.with-set.ensures
    c.loop-version.invariant

pub loop-pair-init : goal.loop-pair-init
loop-pair-init c =
    all_versions (object_colours (Some c.args.kind.now)) c.args.versions.now c.loop-version.version-index
    c.loop-version.set c.loop-version-test.false c.loop-version.invariant

pub with-set-requires-in-loop-pair : goal.with-set-requires-in-loop-pair
with-set-requires-in-loop-pair c =
    subst (λ (x : ℕ). x < MAX_COLOURS) (sym c.shard-in-loop-pair.ensures)
    (shard_below MAX_COLOURS (object_colours (Some c.args.kind.now)) c.requires.some c.requires.below
    c.as_bytes-in-loop-pair.result.now)

pub loop-pair-preserved : goal.loop-pair-preserved
loop-pair-preserved c =
    let colours = object_colours (Some c.args.kind.now) in
    more_pairs colours (version_keys c.args.versions.now) c.args.pairs.now c.loop-pair.pair-index
    c.pair-item.result c.loop-pair.set c.with-set-in-loop-pair.result c.shard-in-loop-pair.result c.loop-pair-test.true
    (c.shard-in-loop-pair.ensures ∙ ap (shard_of colours) (c.as_bytes-in-loop-pair.ensures ∙ ap (λ p. p.key) c.pair-item.is))
    c.with-set-in-loop-pair.ensures c.loop-pair.invariant

pub returns : goal.returns
returns c =
    all_pairs (object_colours (Some c.args.kind.now)) c.requires (version_keys c.args.versions.now) c.args.pairs.now
    c.loop-pair.set c.loop-pair.pair-index c.loop-pair-test.false c.loop-pair.invariant
