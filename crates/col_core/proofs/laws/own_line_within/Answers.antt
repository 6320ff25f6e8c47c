use Rattle.col_core.proofs.OwnLines.{own_line_within}
use Rattle.col_core.proofs.laws.own_line_within.Goals as goal

pub returns : goal.returns
returns c = own_line_within
