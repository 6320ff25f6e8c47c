use Rattle.col_core.proofs.Uniqueness.{cut_unique}
use Rattle.col_core.proofs.laws.cut_is_unique.Goals as goal

pub returns : goal.returns
returns c = cut_unique
