use Rattle.lawful_run.specs.Callers.{caller_of}
use Rattle.walk_law.specs.Twelfth.{WasFirst, open_in}
use Rattle.walk_law.specs.Walking.{log_walked}
use Rattle.walk_law.proofs.Lists.{all_end, all_step, all_stop}
use Rattle.walk_law.proofs.twelfth.Guards.were_first.Goals as goal

pub returns-then-not-was_first : goal.returns-then-not-was_first
returns-then-not-was_first c = λ kept is low.
    all_stop (WasFirst (open_in c.args.subject.now.script.shape.colours c.args.self.now.opens.by_column.items)
    (log_walked c.args.subject.now) (caller_of c.args.subject.now.script c.args.client) kept) c.args.points.now
    c.loop-point.point-index _ c.was_first.result c.loop-point-test.true
    (c.was_first.ensures kept is (low c.loop-point.point-index _ c.loop-point-test.true)) c.if-not-was_first.true

pub loop-point-preserved : goal.loop-point-preserved
loop-point-preserved c = λ kept is low.
    all_step (WasFirst (open_in c.args.subject.now.script.shape.colours c.args.self.now.opens.by_column.items)
    (log_walked c.args.subject.now) (caller_of c.args.subject.now.script c.args.client) kept) c.args.points.now
    c.loop-point.point-index _ c.was_first.result c.loop-point-test.true (c.loop-point.invariant kept is low)
    (c.was_first.ensures kept is (low c.loop-point.point-index _ c.loop-point-test.true)) c.if-not-was_first.false

pub returns : goal.returns
returns c = λ kept is low.
    all_end (WasFirst (open_in c.args.subject.now.script.shape.colours c.args.self.now.opens.by_column.items)
    (log_walked c.args.subject.now) (caller_of c.args.subject.now.script c.args.client) kept) c.args.points.now
    c.loop-point.point-index c.loop-point-test.false (c.loop-point.invariant kept is low)
