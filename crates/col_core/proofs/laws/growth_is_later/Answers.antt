use Rattle.col_core.proofs.Facts.{later_by_growth}
use Rattle.col_core.proofs.laws.growth_is_later.Goals as goal

pub returns : goal.returns
returns c = later_by_growth
