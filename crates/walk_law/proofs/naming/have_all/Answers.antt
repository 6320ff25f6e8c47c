use Rattle.run_rules.specs.Naming.{Has}
use Rattle.walk_law.specs.Fourth.{IsOfKind}
use Rattle.walk_law.proofs.Lists.{all_end, all_step, all_stop}
use Rattle.walk_law.proofs.naming.have_all.Goals as goal

pub returns-then-not-has : goal.returns-then-not-has
returns-then-not-has c =
    all_stop (Has c.args.client c.args.journal.now (IsOfKind c.args.kind)) c.args.places.now c.loop-place.place-index _ c.has.result c.loop-place-test.true c.has.ensures
    c.if-not-has.true

pub loop-place-preserved : goal.loop-place-preserved
loop-place-preserved c =
    all_step (Has c.args.client c.args.journal.now (IsOfKind c.args.kind)) c.args.places.now c.loop-place.place-index _ c.has.result c.loop-place-test.true c.loop-place.invariant
    c.has.ensures c.if-not-has.false

pub returns : goal.returns
returns c = all_end (Has c.args.client c.args.journal.now (IsOfKind c.args.kind)) c.args.places.now c.loop-place.place-index c.loop-place-test.false c.loop-place.invariant
