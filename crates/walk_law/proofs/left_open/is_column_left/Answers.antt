use Rattle.walk_law.specs.LeftOpen.{IsLeftBy}
use Rattle.walk_law.proofs.Lists.{all_end, all_step, all_stop}
use Rattle.walk_law.proofs.left_open.is_column_left.Goals as goal

pub returns-then-not-is_left : goal.returns-then-not-is_left
returns-then-not-is_left c =
    all_stop (IsLeftBy c.args.report.now) c.args.queue.now c.loop-shown.shown-index _ c.is_left.result c.loop-shown-test.true
    c.is_left.ensures c.if-not-is_left.true

pub loop-shown-preserved : goal.loop-shown-preserved
loop-shown-preserved c =
    all_step (IsLeftBy c.args.report.now) c.args.queue.now c.loop-shown.shown-index _ c.is_left.result c.loop-shown-test.true
    c.loop-shown.invariant c.is_left.ensures c.if-not-is_left.false

pub returns : goal.returns
returns c = all_end (IsLeftBy c.args.report.now) c.args.queue.now c.loop-shown.shown-index c.loop-shown-test.false c.loop-shown.invariant
