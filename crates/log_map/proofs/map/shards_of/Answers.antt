use Rattle.std.proofs.Common.{ℕ, ◌+◌, List, [], length, get_or, ap, subst, sym, ◌∙◌, refl, arith}
use Rattle.object_fold.specs.declared.shard_map.ShardMap.{ShardMap}
use Rattle.object_fold.specs.States.{IsShardMap}
use Rattle.log_map.specs.Maps.{AreFresh}
use Rattle.log_map.proofs.MapAnswers.{fresh_more}
use Rattle.log_map.proofs.map.shards_of.Goals as goal

pub loop-colour-preserved : goal.loop-colour-preserved
loop-colour-preserved c =
    let n = c.loop-colour.colour-index in
    let items = c.as_slice-colour-items.ensures in
    let long = ap length items in
    let less = c.loop-colour-test.true in
    subst (AreFresh c.args.colours.now (n + 1)) (sym c.in_ok-push.ensures.items)
    (fresh_more c.args.colours.now n (get_or c.args.colours.now n 0) 0 c.loop-colour.shards.items c.new.result
    (omega (arith, less, long)) refl
    (ap (λ (m : ShardMap). m.colours) c.new.ensures.state ∙ (c.open-shard.ensures.colours ∙ (c.from.ensures ∙ (c.in_ok-copy.ensures.items ∙ c.as_slice.ensures))))
    (ap (λ (m : ShardMap). m.shard) c.new.ensures.state ∙ (c.open-shard.ensures.shard ∙ ap (λ (l : List ℕ). get_or l n 0) items))
    c.new.ensures.count (subst (λ (m : ShardMap). IsShardMap m []) (sym c.new.ensures.state) c.open-shard.ensures.empty)
    c.loop-colour.invariant)
