use Rattle.walk_law.specs.Eleventh.{IsEndMark}
use Rattle.walk_law.proofs.Lists.{all_end, all_step, all_stop}
use Rattle.walk_law.proofs.eleventh.are_end_marks.Goals as goal

pub returns-then-not-is_end_mark : goal.returns-then-not-is_end_mark
returns-then-not-is_end_mark c =
    all_stop (IsEndMark c.args.colour) c.args.marks.now c.loop-mark.mark-index _ c.is_end_mark.result c.loop-mark-test.true
    c.is_end_mark.ensures c.if-not-is_end_mark.true

pub loop-mark-preserved : goal.loop-mark-preserved
loop-mark-preserved c =
    all_step (IsEndMark c.args.colour) c.args.marks.now c.loop-mark.mark-index _ c.is_end_mark.result c.loop-mark-test.true
    c.loop-mark.invariant c.is_end_mark.ensures c.if-not-is_end_mark.false

pub returns : goal.returns
returns c =
    all_end (IsEndMark c.args.colour) c.args.marks.now c.loop-mark.mark-index c.loop-mark-test.false c.loop-mark.invariant
