use Rattle.run_script.proofs.Verdicts.{whole_said, whole_begun}
use Rattle.run_script.proofs.checking.check_source.Goals as goal

pub returns-in-Ok-clause-judged : goal.returns-in-Ok-clause-judged
returns-in-Ok-clause-judged g c = λ e. whole_said c.judge_bytes.result _ _ (g.S.Source.left c.args.source.now)
    (g.K.Sink.holds c.args.sink.now) (g.K.Sink.holds c.judge_bytes.new.sink) c.as_slice.ensures.value c.in-Ok.ensures.front
    (c.judge_bytes.ensures.judged e)

pub returns-in-Ok-clause-front : goal.returns-in-Ok-clause-front
returns-in-Ok-clause-front g c = λ e. whole_begun _ _ (g.S.Source.left c.args.source.now) (g.K.Sink.holds c.args.sink.now)
    (g.K.Sink.holds c.judge_bytes.new.sink) c.as_slice.ensures.value c.in-Ok.ensures.front (c.judge_bytes.ensures.front e)
