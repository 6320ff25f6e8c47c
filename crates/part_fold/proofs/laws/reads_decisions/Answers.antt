use Rattle.part_fold.proofs.DecisionLaws.{reads_decisions}
use Rattle.part_fold.proofs.laws.reads_decisions.Goals as goal

pub returns : goal.returns
returns c = reads_decisions
