use Rattle.col_core.proofs.DatedLaws.{dated-is_dated}
use Rattle.col_core.proofs.laws.dates_are_greatest.Goals as goal

pub returns : goal.returns
returns c = dated-is_dated
