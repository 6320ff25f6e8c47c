use Rattle.std.proofs.Common.{List, ℕ, ◌∙◌, map, take, arith, refl, ap, sym, append-nil}
use Rattle.log_node.specs.declared.forms.Pair.{Pair}
use Rattle.log_node.specs.declared.forms.Version.{Version}
use Rattle.log_node.specs.Sets.{set_of}
use Rattle.object_fold.specs.Nodes.{shard_of}
use Rattle.lawful_run.specs.Asks.{keys_of_pairs}
use Rattle.log_client.specs.Objects.{version_keys}
use Rattle.log_client.proofs.Object.ObjectShards.{both_keys, more_behind, more_shards, shards_all}
use Rattle.log_client.proofs.shard_sets.transaction_shards.Goals as goal

pub loop-version-init : goal.loop-version-init
loop-version-init c = refl

pub loop-version-preserved : goal.loop-version-preserved
loop-version-preserved c =
    c.with-set.ensures
    ∙ more_shards (λ (v : Version). v.key) c.args.colours.now c.args.versions.now c.loop-version.version-index
    c.version-item.result c.loop-version.set c.shard_of.result c.loop-version-test.true
    (c.shard_of.ensures ∙ ap (shard_of c.args.colours.now) (c.as_bytes.ensures ∙ ap (λ (v : Version). v.key) c.version-item.is))
    c.loop-version.invariant

pub loop-pair-init : goal.loop-pair-init
loop-pair-init c =
    c.loop-version.invariant
    ∙ ap set_of (shards_all (λ (v : Version). v.key) c.args.colours.now c.args.versions.now c.loop-version.version-index
    (omega (arith, c.loop-version-test.false))
    ∙ sym (append-nil (map (λ (k : List ℕ). shard_of c.args.colours.now k) (version_keys c.args.versions.now))))

pub loop-pair-preserved : goal.loop-pair-preserved
loop-pair-preserved c =
    c.with-set-in-loop-pair.ensures
    ∙ more_behind (λ (p : Pair). p.key) c.args.colours.now c.args.pairs.now
    (map (λ (k : List ℕ). shard_of c.args.colours.now k) (version_keys c.args.versions.now))
    c.loop-pair.pair-index c.pair-item.result c.loop-pair.set c.shard_of-in-loop-pair.result c.loop-pair-test.true
    (c.shard_of-in-loop-pair.ensures ∙ ap (shard_of c.args.colours.now)
    (c.as_bytes-in-loop-pair.ensures ∙ ap (λ (p : Pair). p.key) c.pair-item.is)) c.loop-pair.invariant

pub returns : goal.returns
returns c =
    both_keys c.args.colours.now (version_keys c.args.versions.now) (keys_of_pairs c.args.pairs.now)
    (map (λ (k : List ℕ). shard_of c.args.colours.now k) (version_keys c.args.versions.now))
    (map (λ (x : Pair). shard_of c.args.colours.now x.key) (take c.loop-pair.pair-index c.args.pairs.now)) c.loop-pair.set refl
    (shards_all (λ (p : Pair). p.key) c.args.colours.now c.args.pairs.now c.loop-pair.pair-index
    (omega (arith, c.loop-pair-test.false))) c.loop-pair.invariant
