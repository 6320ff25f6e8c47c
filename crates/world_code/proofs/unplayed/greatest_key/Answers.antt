use Rattle.std.proofs.Common.{List, take, drop, map, ap, ◌∙◌}
use Rattle.std.specs.Prelude.{◌-◌}
use Rattle.std.proofs.lemmas.List.{take_all}
use Rattle.log_node.specs.declared.ids.Key.{Key}
use Rattle.log_node.specs.Outcomes.{greatest}
use Rattle.world_code.proofs.GreatestStamps.{greatest_more, clipped}
use Rattle.world_code.proofs.unplayed.greatest_key.Goals as goal

pub loop-key-preserved : goal.loop-key-preserved
loop-key-preserved c =
    c.max-most.ensures
    ∙ greatest_more (λ (k : Key). k.stamp)
    (take (c.min-end.result - c.min-start.result) (drop c.min-start.result c.args.keys.now)) c.loop-key.key-index
    c.loop-key.most _ c.loop-key-test.true c.loop-key.invariant

pub returns : goal.returns
returns c =
    let part = take (c.min-end.result - c.min-start.result) (drop c.min-start.result c.args.keys.now) in
    c.loop-key.invariant
    ∙ ap (λ (l : List Key). greatest (map (λ (k : Key). k.stamp) l))
    (take_all c.loop-key.key-index part c.loop-key-test.false
    ∙ clipped c.args.from c.args.to c.min-start.result c.min-end.result c.args.keys.now c.min-end.ensures
    c.min-start.ensures)
