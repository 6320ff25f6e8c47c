use Rattle.std.proofs.Common.{ap, Err}
use Rattle.run_script.specs.TopCall.{IsRunText, IsRefusalText}
use Rattle.run_script.proofs.TopLemmas.{too_long_written, too_long_begun, written_of, begun_of}
use Rattle.run_script.proofs.top.perform.Goals as goal

pub returns-in-Err-TooLong-clause-refused : goal.returns-in-Err-TooLong-clause-refused
returns-in-Err-TooLong-clause-refused g c = λ e. too_long_written (g.S.Source.left c.args.source.now) _ _
    (c.in-Err-TooLong.ensures.too_long (ap Err c.in-Err-TooLong.field-0-is)) (c.refuse.ensures.refused e)

pub returns-in-Err-TooLong-clause-front : goal.returns-in-Err-TooLong-clause-front
returns-in-Err-TooLong-clause-front g c = λ e. too_long_begun c.args.asked (g.S.Source.left c.args.source.now) _ _
    (c.in-Err-TooLong.ensures.too_long (ap Err c.in-Err-TooLong.field-0-is)) (c.refuse.ensures.front e)

pub returns-in-Ok-clause-done : goal.returns-in-Ok-clause-done
returns-in-Ok-clause-done g c = λ e.
    written_of (IsRunText c.args.asked) _ _ (g.S.Source.left c.args.source.now) (g.K.Sink.holds c.args.sink.now) _
    c.as_slice.ensures.value (c.in-Ok.ensures.all) (c.do_bytes.ensures.done e)

pub returns-in-Ok-clause-refused : goal.returns-in-Ok-clause-refused
returns-in-Ok-clause-refused g c = λ e.
    written_of IsRefusalText _ _ (g.S.Source.left c.args.source.now) (g.K.Sink.holds c.args.sink.now) _
    c.as_slice.ensures.value (c.in-Ok.ensures.all) (c.do_bytes.ensures.refused e)

pub returns-in-Ok-clause-front : goal.returns-in-Ok-clause-front
returns-in-Ok-clause-front g c = λ e.
    begun_of c.args.asked _ _ (g.S.Source.left c.args.source.now) (g.K.Sink.holds c.args.sink.now) _
    c.as_slice.ensures.value (c.in-Ok.ensures.all) (c.do_bytes.ensures.front e)
