use Rattle.lawful_run.specs.Callers.{caller_of}
use Rattle.walk_law.specs.Sixth.{StandsThere}
use Rattle.walk_law.specs.Walking.{log_walked}
use Rattle.walk_law.proofs.Lists.{all_end, all_step, all_stop}
use Rattle.walk_law.proofs.points.stand_there.Goals as goal

pub returns-then-not-stands_there : goal.returns-then-not-stands_there
returns-then-not-stands_there c = λ kept is.
    all_stop (StandsThere (log_walked c.args.subject.now) (caller_of c.args.subject.now.script c.args.client) kept c.args.stamp c.args.row)
    c.args.points.now c.loop-point.point-index _ c.stands_there.result c.loop-point-test.true (c.stands_there.ensures kept is)
    c.if-not-stands_there.true

pub loop-point-preserved : goal.loop-point-preserved
loop-point-preserved c = λ kept is.
    all_step (StandsThere (log_walked c.args.subject.now) (caller_of c.args.subject.now.script c.args.client) kept c.args.stamp c.args.row)
    c.args.points.now c.loop-point.point-index _ c.stands_there.result c.loop-point-test.true (c.loop-point.invariant kept is)
    (c.stands_there.ensures kept is) c.if-not-stands_there.false

pub returns : goal.returns
returns c = λ kept is.
    all_end (StandsThere (log_walked c.args.subject.now) (caller_of c.args.subject.now.script c.args.client) kept c.args.stamp c.args.row)
    c.args.points.now c.loop-point.point-index c.loop-point-test.false (c.loop-point.invariant kept is)
