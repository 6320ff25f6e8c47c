use Rattle.col_core.proofs.ChainGrowth.{chains_grow}
use Rattle.col_core.proofs.laws.chains_grow.Goals as goal

pub returns : goal.returns
returns c = chains_grow
