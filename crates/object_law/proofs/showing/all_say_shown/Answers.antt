use Rattle.object_law.specs.Showing.{SaysShown}
use Rattle.walk_law.proofs.CallerLemmas.{all_end, item_step, item_stop}
use Rattle.object_law.proofs.showing.all_say_shown.Goals as goal

pub returns-then-not-says_shown : goal.returns-then-not-says_shown
returns-then-not-says_shown c =
    item_stop (SaysShown c.args.decided c.args.texts.now) c.args.nodes.now c.loop-node.node-index c.node-item.result
    c.says_shown.result c.loop-node-test.true c.node-item.is c.says_shown.ensures c.if-not-says_shown.true

pub loop-node-preserved : goal.loop-node-preserved
loop-node-preserved c =
    item_step (SaysShown c.args.decided c.args.texts.now) c.args.nodes.now c.loop-node.node-index c.node-item.result
    c.says_shown.result c.loop-node-test.true c.node-item.is c.loop-node.invariant c.says_shown.ensures c.if-not-says_shown.false

pub returns : goal.returns
returns c =
    all_end (SaysShown c.args.decided c.args.texts.now) c.args.nodes.now c.loop-node.node-index c.loop-node-test.false
    c.loop-node.invariant
