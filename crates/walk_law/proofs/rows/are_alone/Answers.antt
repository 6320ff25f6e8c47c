use Rattle.walk_law.specs.RowsBeside.{IsRowAlone}
use Rattle.walk_law.proofs.Lists.{all_end, item_step, item_stop}
use Rattle.walk_law.proofs.rows.are_alone.Goals as goal

pub returns-then-not-is_alone : goal.returns-then-not-is_alone
returns-then-not-is_alone c =
    item_stop (IsRowAlone c.args.script.now c.args.region) c.args.rows.now c.loop-row.row-index c.row-item.result c.is_alone.result
    c.loop-row-test.true c.row-item.is c.is_alone.ensures c.if-not-is_alone.true

pub loop-row-preserved : goal.loop-row-preserved
loop-row-preserved c =
    item_step (IsRowAlone c.args.script.now c.args.region) c.args.rows.now c.loop-row.row-index c.row-item.result c.is_alone.result
    c.loop-row-test.true c.row-item.is c.loop-row.invariant c.is_alone.ensures c.if-not-is_alone.false

pub returns : goal.returns
returns c =
    all_end (IsRowAlone c.args.script.now c.args.region) c.args.rows.now c.loop-row.row-index c.loop-row-test.false c.loop-row.invariant
