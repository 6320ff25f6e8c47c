use Rattle.std.proofs.Common.{◌≡◌, ℕ, List, take, drop, map, get_or, ap, ◌∙◌}
use Rattle.std.specs.Prelude.{◌-◌, max}
use Rattle.std.proofs.lemmas.List.{take_all}
use Rattle.log_node.specs.Seen.{PlacedNode}
use Rattle.log_node.specs.Outcomes.{greatest}
use Rattle.world_code.proofs.GreatestStamps.{greatest_more, clipped}
use Rattle.world_code.proofs.unplayed.greatest_item.Goals as goal

pub loop-item-preserved : goal.loop-item-preserved
loop-item-preserved c =
    let part = take (c.min-end.result - c.min-start.result) (drop c.min-start.result c.args.items.now) in
    let stamp : c.item.inside.head.key.stamp
    ≡ (get_or part c.loop-item.item-index c.item-item.result).head.key.stamp =
    ap (λ (i : PlacedNode). i.head.key.stamp) (c.item.view_is ∙ c.item-item.is) in
    c.max-most.ensures
    ∙ (ap (λ (s : ℕ). max s c.loop-item.most) stamp
    ∙ greatest_more (λ (i : PlacedNode). i.head.key.stamp) part c.loop-item.item-index c.loop-item.most
    c.item-item.result c.loop-item-test.true c.loop-item.invariant)

pub returns : goal.returns
returns c =
    let part = take (c.min-end.result - c.min-start.result) (drop c.min-start.result c.args.items.now) in
    c.loop-item.invariant
    ∙ ap (λ (l : List PlacedNode). greatest (map (λ (i : PlacedNode). i.head.key.stamp) l))
    (take_all c.loop-item.item-index part c.loop-item-test.false
    ∙ clipped c.args.from c.args.to c.min-start.result c.min-end.result c.args.items.now c.min-end.ensures
    c.min-start.ensures)
