use Rattle.std.proofs.Common.{◌∙◌}
use Rattle.walk_law.specs.LeftOpen.{IsHelpedWhole}
use Rattle.walk_law.proofs.Lists.{all_end, item_step, item_stop}
use Rattle.walk_law.proofs.LeftLemmas.{whole_as}
use Rattle.walk_law.proofs.left_open.are_helped_whole.Goals as goal

pub returns-then-not-is_helped_whole : goal.returns-then-not-is_helped_whole
returns-then-not-is_helped_whole c =
    let r = c.row-item.result in
    item_stop (IsHelpedWhole c.args.region c.args.columns.now) c.args.rows.now c.loop-row.row-index r c.is_helped_whole.result
    c.loop-row-test.true c.row-item.is
    (whole_as c.args.region c.args.columns.now r c.has.result c.has-in-loop-row.result c.is_helped_whole.result
    (c.has.ensures ∙ c.in_ok-helped.ensures r.id) (c.has-in-loop-row.ensures ∙ c.in_ok-waiting.ensures r.id) c.is_helped_whole.ensures)
    c.if-not-is_helped_whole.true

pub loop-row-preserved : goal.loop-row-preserved
loop-row-preserved c =
    let r = c.row-item.result in
    item_step (IsHelpedWhole c.args.region c.args.columns.now) c.args.rows.now c.loop-row.row-index r c.is_helped_whole.result
    c.loop-row-test.true c.row-item.is c.loop-row.invariant
    (whole_as c.args.region c.args.columns.now r c.has.result c.has-in-loop-row.result c.is_helped_whole.result
    (c.has.ensures ∙ c.in_ok-helped.ensures r.id) (c.has-in-loop-row.ensures ∙ c.in_ok-waiting.ensures r.id) c.is_helped_whole.ensures)
    c.if-not-is_helped_whole.false

pub returns : goal.returns
returns c = all_end (IsHelpedWhole c.args.region c.args.columns.now) c.args.rows.now c.loop-row.row-index c.loop-row-test.false c.loop-row.invariant
