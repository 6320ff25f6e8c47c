use Rattle.std.proofs.Common.{ap}
use Rattle.stamp_board.specs.declared.view.Size.{Size}
use Rattle.tests_log.proofs.tests.regions.begin.Goals as goal

pub begin-requires-clause-colours : goal.begin-requires-clause-colours
begin-requires-clause-colours c = c.in_ok-node.ensures.both c.args.region.now.board.size
    (ap (λ (z : Size). z.colours) c.requires.region.size)
