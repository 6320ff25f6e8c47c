use Rattle.part_fold.proofs.DecisionLaws.{decisions_differ}
use Rattle.part_fold.proofs.laws.decisions_differ.Goals as goal

pub returns : goal.returns
returns c = decisions_differ
