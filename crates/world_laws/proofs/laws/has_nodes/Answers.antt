use Rattle.world_laws.proofs.Listed.{listed, has_nodes}
use Rattle.world_laws.proofs.laws.has_nodes.Goals as goal

pub returns : goal.returns
returns c = λ shape steps. has_nodes _ (listed shape steps)
