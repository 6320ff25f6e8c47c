use Rattle.std.proofs.Common.{◌<◌, List, ℕ, ◌∙◌, map, take, arith, refl, ap, sym, subst, append-nil}
use Rattle.log_node.specs.declared.forms.Pair.{Pair}
use Rattle.log_node.specs.declared.limits.TheConstants.{MAX_COLOURS}
use Rattle.report_text.specs.declared.report.KeyAnswer.{KeyAnswer}
use Rattle.log_node.specs.Sets.{set_of}
use Rattle.object_fold.specs.Nodes.{shard_of}
use Rattle.lawful_run.specs.Asks.{keys_of_pairs}
use Rattle.walk_law.specs.Asking.{keys_shown}
use Rattle.walk_law.specs.Asking.{colours_in, shards_of}
use Rattle.walk_law.proofs.Shards.{both_keys, more_behind, more_shards, shards_all, shard_low}
use Rattle.walk_law.proofs.object_colours.transaction_set.Goals as goal

pub loop-answer-init : goal.loop-answer-init
loop-answer-init c = refl

pub with-set-requires : goal.with-set-requires
with-set-requires c =
    subst (λ (x : ℕ). x < MAX_COLOURS) (sym c.shard_of.ensures)
    (shard_low c.args.own.now c.as_bytes.result.now c.requires)

pub loop-answer-preserved : goal.loop-answer-preserved
loop-answer-preserved c =
    c.with-set.ensures
    ∙ more_shards (λ (v : KeyAnswer). v.key) c.args.own.now c.args.read.now c.loop-answer.answer-index
    c.answer-item.result c.loop-answer.set c.shard_of.result c.loop-answer-test.true
    (c.shard_of.ensures ∙ ap (shard_of c.args.own.now) (c.as_bytes.ensures ∙ ap (λ (v : KeyAnswer). v.key) c.answer-item.is))
    c.loop-answer.invariant

pub loop-pair-init : goal.loop-pair-init
loop-pair-init c =
    c.loop-answer.invariant
    ∙ ap set_of (shards_all (λ (v : KeyAnswer). v.key) c.args.own.now c.args.read.now c.loop-answer.answer-index
    (omega (arith, c.loop-answer-test.false))
    ∙ sym (append-nil (map (λ (k : List ℕ). shard_of c.args.own.now k) (keys_shown c.args.read.now))))

pub with-set-requires-in-loop-pair : goal.with-set-requires-in-loop-pair
with-set-requires-in-loop-pair c =
    subst (λ (x : ℕ). x < MAX_COLOURS) (sym c.shard_of-in-loop-pair.ensures)
    (shard_low c.args.own.now c.as_bytes-in-loop-pair.result.now c.requires)

pub loop-pair-preserved : goal.loop-pair-preserved
loop-pair-preserved c =
    c.with-set-in-loop-pair.ensures
    ∙ more_behind (λ (p : Pair). p.key) c.args.own.now c.args.pairs.now
    (map (λ (k : List ℕ). shard_of c.args.own.now k) (keys_shown c.args.read.now))
    c.loop-pair.pair-index c.pair-item.result c.loop-pair.set c.shard_of-in-loop-pair.result c.loop-pair-test.true
    (c.shard_of-in-loop-pair.ensures ∙ ap (shard_of c.args.own.now)
    (c.as_bytes-in-loop-pair.ensures ∙ ap (λ (p : Pair). p.key) c.pair-item.is)) c.loop-pair.invariant

pub returns : goal.returns
unfolding colours_in shards_of
returns c =
    both_keys c.args.own.now (keys_shown c.args.read.now) (keys_of_pairs c.args.pairs.now)
    (map (λ (k : List ℕ). shard_of c.args.own.now k) (keys_shown c.args.read.now))
    (map (λ (x : Pair). shard_of c.args.own.now x.key) (take c.loop-pair.pair-index c.args.pairs.now)) c.loop-pair.set refl
    (shards_all (λ (p : Pair). p.key) c.args.own.now c.args.pairs.now c.loop-pair.pair-index
    (omega (arith, c.loop-pair-test.false))) c.loop-pair.invariant
