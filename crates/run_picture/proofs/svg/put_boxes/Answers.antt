use Rattle.run_picture.specs.Svg.{box_text}
use Rattle.run_picture.proofs.Enumerated.{item_added}
use Rattle.run_picture.proofs.svg.put_boxes.Goals as goal

pub loop-node-preserved : goal.loop-node-preserved
loop-node-preserved g c =
    item_added _ _ _ (box_text c.args.script.now c.args.report.now) c.args.boxes.now c.loop-node.node-index _ c.loop-node-test.true
    c.loop-node.invariant c.put_box.ensures
