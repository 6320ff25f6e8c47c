use Rattle.run_rules.specs.Naming.{NamesPoint}
use Rattle.walk_law.specs.Walking.{log_walked}
use Rattle.walk_law.proofs.Lists.{all_end, all_step, all_stop}
use Rattle.walk_law.proofs.own_seen.OwnSeen.names_points.Goals as goal

pub returns-then-not-names_point : goal.returns-then-not-names_point
returns-then-not-names_point c = λ caller kept s low.
    all_stop (NamesPoint (log_walked c.args.subject.now) caller kept) c.args.points.now c.loop-point.point-index _ c.names_point.result
    c.loop-point-test.true (c.names_point.ensures caller kept s (low c.loop-point.point-index _ c.loop-point-test.true))
    c.if-not-names_point.true

pub loop-point-preserved : goal.loop-point-preserved
loop-point-preserved c = λ caller kept s low.
    all_step (NamesPoint (log_walked c.args.subject.now) caller kept) c.args.points.now c.loop-point.point-index _ c.names_point.result
    c.loop-point-test.true (c.loop-point.invariant caller kept s low)
    (c.names_point.ensures caller kept s (low c.loop-point.point-index _ c.loop-point-test.true)) c.if-not-names_point.false

pub returns : goal.returns
returns c = λ caller kept s low.
    all_end (NamesPoint (log_walked c.args.subject.now) caller kept) c.args.points.now c.loop-point.point-index c.loop-point-test.false
    (c.loop-point.invariant caller kept s low)
