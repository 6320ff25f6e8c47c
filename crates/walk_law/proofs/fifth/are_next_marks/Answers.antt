use Rattle.lawful_run.specs.Callers.{caller_of}
use Rattle.walk_law.specs.Fifth.{MarksNext}
use Rattle.walk_law.specs.Walking.{log_walked}
use Rattle.walk_law.proofs.Lists.{all_end, all_step, all_stop}
use Rattle.walk_law.proofs.fifth.are_next_marks.Goals as goal

pub returns-then-not-marks_next : goal.returns-then-not-marks_next
returns-then-not-marks_next c = λ kept is.
    all_stop (MarksNext c.args.subject.now.script.shape.colours (log_walked c.args.subject.now)
    (caller_of c.args.subject.now.script c.args.client) kept) c.args.marks.now c.loop-mark.mark-index _ c.marks_next.result
    c.loop-mark-test.true (c.marks_next.ensures kept is) c.if-not-marks_next.true

pub loop-mark-preserved : goal.loop-mark-preserved
loop-mark-preserved c = λ kept is.
    all_step (MarksNext c.args.subject.now.script.shape.colours (log_walked c.args.subject.now)
    (caller_of c.args.subject.now.script c.args.client) kept) c.args.marks.now c.loop-mark.mark-index _ c.marks_next.result
    c.loop-mark-test.true (c.loop-mark.invariant kept is) (c.marks_next.ensures kept is) c.if-not-marks_next.false

pub returns : goal.returns
returns c = λ kept is.
    all_end (MarksNext c.args.subject.now.script.shape.colours (log_walked c.args.subject.now)
    (caller_of c.args.subject.now.script c.args.client) kept) c.args.marks.now c.loop-mark.mark-index c.loop-mark-test.false
    (c.loop-mark.invariant kept is)
