use Rattle.std.proofs.Common.{◌≡◌, ℕ, get_or, ap, ◌∙◌}
use Rattle.std.specs.Prelude.{max}
use Rattle.std.proofs.lemmas.List.{take_all}
use Rattle.log_node.specs.Seen.{PlacedNode}
use Rattle.lawful_run.specs.Reads.{greatest_stamp}
use Rattle.log_client.proofs.Sync.Greatest.{greatest_more}
use Rattle.log_client.proofs.syncs.greatest_stamp.Goals as goal

pub loop-node-preserved : goal.loop-node-preserved
loop-node-preserved c =
    let stamp : c.node.inside.head.key.stamp ≡ (get_or c.args.nodes.now c.loop-node.node-index c.node-item.result).head.key.stamp =
    ap (λ (i : PlacedNode). i.head.key.stamp) (c.node.view_is ∙ c.node-item.is) in
    c.max-most.ensures
    ∙ (ap (λ (s : ℕ). max s c.loop-node.most) stamp
    ∙ greatest_more (λ (i : PlacedNode). i.head.key.stamp) c.args.nodes.now c.loop-node.node-index c.loop-node.most
    c.node-item.result c.loop-node-test.true c.loop-node.invariant)

pub returns : goal.returns
returns c =
    c.loop-node.invariant
    ∙ ap greatest_stamp (take_all c.loop-node.node-index c.args.nodes.now c.loop-node-test.false)
