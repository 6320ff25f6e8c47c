use Rattle.col_core.proofs.IdLemmas.{clocks_rise}
use Rattle.col_core.proofs.laws.clocks_rise.Goals as goal

pub returns : goal.returns
returns c = clocks_rise
