use Rattle.log_node.specs.declared.marks.ColourMark.{ColourMark}
use Rattle.col_core.specs.Rows.{IsMarkOf}
use Rattle.walk_law.specs.RowsBeside.{bare_row, histories_in}
use Rattle.walk_law.proofs.Lists.{all_end, all_step, all_stop}
use Rattle.walk_law.proofs.rows.are_marks_of.Goals as goal

pub returns-then-not-is_mark_of : goal.returns-then-not-is_mark_of
returns-then-not-is_mark_of c =
    all_stop (λ (m : ColourMark). IsMarkOf (histories_in c.args.columns.now m.colour) (bare_row c.args.columns.now c.args.row.now).node m.mark)
    c.args.marks.now c.loop-mark.mark-index _ c.is_mark_of.result c.loop-mark-test.true c.is_mark_of.ensures c.if-not-is_mark_of.true

pub loop-mark-preserved : goal.loop-mark-preserved
loop-mark-preserved c =
    all_step (λ (m : ColourMark). IsMarkOf (histories_in c.args.columns.now m.colour) (bare_row c.args.columns.now c.args.row.now).node m.mark)
    c.args.marks.now c.loop-mark.mark-index _ c.is_mark_of.result c.loop-mark-test.true c.loop-mark.invariant c.is_mark_of.ensures
    c.if-not-is_mark_of.false

pub returns : goal.returns
returns c =
    all_end (λ (m : ColourMark). IsMarkOf (histories_in c.args.columns.now m.colour) (bare_row c.args.columns.now c.args.row.now).node m.mark)
    c.args.marks.now c.loop-mark.mark-index c.loop-mark-test.false c.loop-mark.invariant
