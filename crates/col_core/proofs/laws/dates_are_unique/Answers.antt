use Rattle.col_core.proofs.Uniqueness.{dated_unique}
use Rattle.col_core.proofs.laws.dates_are_unique.Goals as goal

pub returns : goal.returns
returns c = dated_unique
