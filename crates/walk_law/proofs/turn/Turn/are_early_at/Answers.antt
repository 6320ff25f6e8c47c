use Rattle.walk_law.specs.Seventh.{IsEarlyAt}
use Rattle.walk_law.specs.Walking.{journal_walked}
use Rattle.walk_law.proofs.Lists.{all_end, all_step, all_stop}
use Rattle.walk_law.proofs.turn.Turn.are_early_at.Goals as goal

pub returns-then-not-is_early_at : goal.returns-then-not-is_early_at
returns-then-not-is_early_at c =
    all_stop (IsEarlyAt (journal_walked c.args.subject.now c.args.region c.args.colour) c.args.self.n c.args.self.k c.args.self.steps)
    c.args.places.now c.loop-place.place-index _ c.is_early_at.result c.loop-place-test.true c.is_early_at.ensures
    c.if-not-is_early_at.true

pub loop-place-preserved : goal.loop-place-preserved
loop-place-preserved c =
    all_step (IsEarlyAt (journal_walked c.args.subject.now c.args.region c.args.colour) c.args.self.n c.args.self.k c.args.self.steps)
    c.args.places.now c.loop-place.place-index _ c.is_early_at.result c.loop-place-test.true c.loop-place.invariant c.is_early_at.ensures
    c.if-not-is_early_at.false

pub returns : goal.returns
returns c =
    all_end (IsEarlyAt (journal_walked c.args.subject.now c.args.region c.args.colour) c.args.self.n c.args.self.k c.args.self.steps)
    c.args.places.now c.loop-place.place-index c.loop-place-test.false c.loop-place.invariant
