use Rattle.col_core.proofs.ChainGrowth.{reachable_grows}
use Rattle.col_core.proofs.laws.reached_stays.Goals as goal

pub returns : goal.returns
returns c = reachable_grows
