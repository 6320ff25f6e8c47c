use Rattle.walk_law.specs.LeftOpen.{IsRowLeft}
use Rattle.walk_law.proofs.Lists.{all_end, item_step, item_stop}
use Rattle.walk_law.proofs.left_open.are_rows_left.Goals as goal

pub returns-then-not-is_row_left : goal.returns-then-not-is_row_left
returns-then-not-is_row_left c =
    item_stop (IsRowLeft c.args.report.now) c.args.rows.now c.loop-row.row-index c.row-item.result c.is_row_left.result
    c.loop-row-test.true c.row-item.is c.is_row_left.ensures c.if-not-is_row_left.true

pub loop-row-preserved : goal.loop-row-preserved
loop-row-preserved c =
    item_step (IsRowLeft c.args.report.now) c.args.rows.now c.loop-row.row-index c.row-item.result c.is_row_left.result
    c.loop-row-test.true c.row-item.is c.loop-row.invariant c.is_row_left.ensures c.if-not-is_row_left.false

pub returns : goal.returns
returns c = all_end (IsRowLeft c.args.report.now) c.args.rows.now c.loop-row.row-index c.loop-row-test.false c.loop-row.invariant
