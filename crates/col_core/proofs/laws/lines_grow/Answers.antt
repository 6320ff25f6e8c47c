use Rattle.col_core.proofs.ChainGrowth.{line_grows}
use Rattle.col_core.proofs.laws.lines_grow.Goals as goal

pub returns : goal.returns
returns c = line_grows
