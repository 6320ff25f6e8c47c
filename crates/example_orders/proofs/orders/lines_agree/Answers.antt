use Rattle.world_laws.specs.Laws.{OrderedAlike}
use Rattle.world_laws.proofs.CallerLemmas.{of_reached}
use Rattle.world_code.specs.WorldView.{world_of}
use Rattle.example_orders.proofs.orders.lines_agree.Goals as goal

pub returns : goal.returns
returns c = of_reached OrderedAlike c.ordered_alike.ensures.alike (world_of c.args.world.now) c.agrees.ensures
