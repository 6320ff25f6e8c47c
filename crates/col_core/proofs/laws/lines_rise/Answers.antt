use Rattle.col_core.proofs.ChainGrowth.{line_rises}
use Rattle.col_core.proofs.laws.lines_rise.Goals as goal

pub returns : goal.returns
returns c = line_rises
