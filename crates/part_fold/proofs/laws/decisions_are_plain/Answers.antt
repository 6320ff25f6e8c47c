use Rattle.part_fold.proofs.DecisionLaws.{decisions_are_plain}
use Rattle.part_fold.proofs.laws.decisions_are_plain.Goals as goal

pub returns : goal.returns
returns c = decisions_are_plain
