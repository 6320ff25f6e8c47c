use Rattle.fuzzy_io.specs.Causes.{Rose}
use Rattle.run_script.proofs.TopLemmas.{completes}
use Rattle.run_script.proofs.Verdicts.{judges, says_each}
use Rattle.run_script.proofs.top.run.Goals as goal

pub returns-in-Ok-Some-Script-clause-complete : goal.returns-in-Ok-Some-Script-clause-complete
returns-in-Ok-Some-Script-clause-complete g c = λ asked asks no_read no_write script.
    completes c.perform.result (g.S.Source.left c.args.source.now) (g.K.Sink.holds c.args.sink.now)
    (g.K.Sink.holds c.perform.new.sink)
    (Rose (g.S.Source.faults c.args.source.now) (g.S.Source.faults c.perform.new.source))
    (Rose (g.K.Sink.faults c.args.sink.now) (g.K.Sink.faults c.perform.new.sink))
    c.perform.ensures.no_other
    c.perform.ensures.refused c.perform.ensures.read_fault c.perform.ensures.write_fault no_read no_write script

pub returns-in-Ok-Some-Check-clause-judged_complete : goal.returns-in-Ok-Some-Check-clause-judged_complete
returns-in-Ok-Some-Check-clause-judged_complete g c = λ asks no_read no_write.
    judges c.check_source.result
    (Rose (g.S.Source.faults c.args.source.now) (g.S.Source.faults c.check_source.new.source))
    (Rose (g.K.Sink.faults c.args.sink.now) (g.K.Sink.faults c.check_source.new.sink))
    c.check_source.ensures.no_other c.check_source.ensures.read_fault c.check_source.ensures.write_fault no_read no_write

pub returns-in-Ok-Some-Check-clause-judged_exact : goal.returns-in-Ok-Some-Check-clause-judged_exact
returns-in-Ok-Some-Check-clause-judged_exact g c = λ bytes verdict asks known is tells.
    says_each c.one_verdict.ensures c.check_source.result (g.S.Source.left c.args.source.now) (g.K.Sink.holds c.args.sink.now)
    (g.K.Sink.holds c.check_source.new.sink) bytes verdict (c.check_source.ensures.judged tells) known is
