use Rattle.walk_law.proofs.Members.{low_told, high_told}
use Rattle.walk_law.proofs.can_have.in_set.Goals as goal

pub returns-then-colour-lt-MAX_COLOURS : goal.returns-then-colour-lt-MAX_COLOURS
returns-then-colour-lt-MAX_COLOURS c =
    low_told c.args.set c.args.colour c.has.result c.if-colour-lt-MAX_COLOURS.true c.has.ensures

pub returns-else-colour-lt-MAX_COLOURS : goal.returns-else-colour-lt-MAX_COLOURS
returns-else-colour-lt-MAX_COLOURS c = high_told c.args.set c.args.colour c.if-colour-lt-MAX_COLOURS.false
