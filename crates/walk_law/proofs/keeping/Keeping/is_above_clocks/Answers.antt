use Rattle.report_text.specs.declared.report.RaisePiece.{RaisePiece}
use Rattle.lawful_run.specs.Callers.{caller_of}
use Rattle.run_rules.specs.Telling.{log_of}
use Rattle.walk_law.specs.Reading.{IsAboveClock}
use Rattle.walk_law.proofs.Lists.{all_end, all_step, all_stop}
use Rattle.walk_law.proofs.keeping.Keeping.is_above_clocks.Goals as goal

pub returns-then-not-is_above_clock : goal.returns-then-not-is_above_clock
returns-then-not-is_above_clock c = λ nodes kept below is.
    all_stop (λ (r : RaisePiece). IsAboveClock (log_of c.args.subject.now.report nodes) (caller_of c.args.subject.now.script c.args.client) kept
    c.args.stamp r.colour) c.args.raises.now c.loop-raise.raise-index _ c.is_above_clock.result c.loop-raise-test.true
    (c.is_above_clock.ensures nodes kept (below c.loop-raise.raise-index _ c.loop-raise-test.true) is) c.if-not-is_above_clock.true

pub loop-raise-preserved : goal.loop-raise-preserved
loop-raise-preserved c = λ nodes kept below is.
    all_step (λ (r : RaisePiece). IsAboveClock (log_of c.args.subject.now.report nodes) (caller_of c.args.subject.now.script c.args.client) kept
    c.args.stamp r.colour) c.args.raises.now c.loop-raise.raise-index _ c.is_above_clock.result c.loop-raise-test.true
    (c.loop-raise.invariant nodes kept below is)
    (c.is_above_clock.ensures nodes kept (below c.loop-raise.raise-index _ c.loop-raise-test.true) is) c.if-not-is_above_clock.false

pub returns : goal.returns
returns c = λ nodes kept below is.
    all_end (λ (r : RaisePiece). IsAboveClock (log_of c.args.subject.now.report nodes) (caller_of c.args.subject.now.script c.args.client) kept
    c.args.stamp r.colour) c.args.raises.now c.loop-raise.raise-index c.loop-raise-test.false (c.loop-raise.invariant nodes kept below is)
