use Rattle.lawful_run.specs.Callers.{caller_of}
use Rattle.lawful_run.specs.Moves.{GivesTooLow}
use Rattle.run_rules.specs.Telling.{log_of}
use Rattle.walk_law.proofs.Lists.{all_end, all_step, all_stop}
use Rattle.walk_law.proofs.subject.Subject.give_too_low.Goals as goal

pub returns-then-not-gives_too_low : goal.returns-then-not-gives_too_low
returns-then-not-gives_too_low c = λ told.
    all_stop (GivesTooLow (log_of c.args.self.now.report told) (caller_of c.args.self.now.script c.args.client) c.args.region
    c.args.colour c.args.seen c.args.until) c.args.places.now c.loop-place.place-index _ c.gives_too_low.result c.loop-place-test.true
    (c.gives_too_low.ensures told) c.if-not-gives_too_low.true

pub loop-place-preserved : goal.loop-place-preserved
loop-place-preserved c = λ told.
    all_step (GivesTooLow (log_of c.args.self.now.report told) (caller_of c.args.self.now.script c.args.client) c.args.region
    c.args.colour c.args.seen c.args.until) c.args.places.now c.loop-place.place-index _ c.gives_too_low.result c.loop-place-test.true
    (c.loop-place.invariant told) (c.gives_too_low.ensures told) c.if-not-gives_too_low.false

pub returns : goal.returns
returns c = λ told.
    all_end (GivesTooLow (log_of c.args.self.now.report told) (caller_of c.args.self.now.script c.args.client) c.args.region
    c.args.colour c.args.seen c.args.until) c.args.places.now c.loop-place.place-index c.loop-place-test.false (c.loop-place.invariant told)
