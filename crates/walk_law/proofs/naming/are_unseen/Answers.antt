use Rattle.std.proofs.Common.{◌≤◌}
use Rattle.walk_law.proofs.Lists.{all_end, all_step, all_stop}
use Rattle.walk_law.proofs.naming.are_unseen.Goals as goal

pub returns-then-not-is_unseen : goal.returns-then-not-is_unseen
returns-then-not-is_unseen c =
    all_stop (λ p. c.args.seen ≤ p) c.args.places.now c.loop-place.place-index _ c.is_unseen.result c.loop-place-test.true c.is_unseen.ensures
    c.if-not-is_unseen.true

pub loop-place-preserved : goal.loop-place-preserved
loop-place-preserved c =
    all_step (λ p. c.args.seen ≤ p) c.args.places.now c.loop-place.place-index _ c.is_unseen.result c.loop-place-test.true c.loop-place.invariant
    c.is_unseen.ensures c.if-not-is_unseen.false

pub returns : goal.returns
returns c = all_end (λ p. c.args.seen ≤ p) c.args.places.now c.loop-place.place-index c.loop-place-test.false c.loop-place.invariant
