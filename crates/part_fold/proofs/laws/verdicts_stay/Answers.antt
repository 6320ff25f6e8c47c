use Rattle.part_fold.proofs.StayLemmas.{verdicts_stay}
use Rattle.part_fold.proofs.laws.verdicts_stay.Goals as goal

pub returns : goal.returns
returns c = verdicts_stay
