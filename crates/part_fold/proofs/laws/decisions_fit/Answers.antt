use Rattle.part_fold.proofs.DecisionLaws.{decisions_fit}
use Rattle.part_fold.proofs.laws.decisions_fit.Goals as goal

pub returns : goal.returns
returns c = decisions_fit
