use Rattle.std.proofs.Common.{◌∙◌, sym}
use Rattle.std.proofs.lemmas.List.Elements.{All-more}
use Rattle.report_text.specs.declared.report.RaisePiece.{RaisePiece}
use Rattle.lawful_run.specs.Callers.{caller_of}
use Rattle.run_rules.specs.Telling.{log_of}
use Rattle.walk_law.specs.Reading.{WasClockOf}
use Rattle.walk_law.proofs.Lists.{all_end, told_not, told_so}
use Rattle.walk_law.proofs.ReadingLemmas.{stamp_by, stamp_none}
use Rattle.walk_law.proofs.keeping.Keeping.is_read_stamp.Goals as goal

pub returns-then-was_clock : goal.returns-then-was_clock
returns-then-was_clock c = λ nodes kept below is.
    stamp_by (log_of c.args.subject.now.report nodes) (caller_of c.args.subject.now.script c.args.client) kept c.args.stamp
    c.args.raises.now c.loop-raise.raise-index _ c.loop-raise-test.true
    (told_so c.was_clock.result (c.was_clock.ensures nodes kept (below c.loop-raise.raise-index _ c.loop-raise-test.true) is)
    c.if-was_clock.true)

pub loop-raise-preserved : goal.loop-raise-preserved
loop-raise-preserved c = λ nodes kept below is.
    All-more (λ (r : RaisePiece). WasClockOf (log_of c.args.subject.now.report nodes) (caller_of c.args.subject.now.script c.args.client) kept
    c.args.stamp r → ⊥) c.args.raises.now c.loop-raise.raise-index _ c.loop-raise-test.true
    (c.loop-raise.invariant nodes kept below is)
    (told_not c.was_clock.result (c.was_clock.ensures nodes kept (below c.loop-raise.raise-index _ c.loop-raise-test.true) is)
    c.if-was_clock.false)

pub returns : goal.returns
returns c = λ nodes kept below is.
    stamp_none (log_of c.args.subject.now.report nodes) (caller_of c.args.subject.now.script c.args.client) kept c.args.stamp
    c.args.raises.now (λ e. c.if-stamp-floor.false (e ∙ sym (c.floor.ensures ∙ is.floor)))
    (all_end (λ (r : RaisePiece). WasClockOf (log_of c.args.subject.now.report nodes) (caller_of c.args.subject.now.script c.args.client) kept
    c.args.stamp r → ⊥) c.args.raises.now c.loop-raise.raise-index c.loop-raise-test.false (c.loop-raise.invariant nodes kept below is))
