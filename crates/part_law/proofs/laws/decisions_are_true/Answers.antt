use Rattle.part_law.proofs.Decisions.{decisions_are_true}
use Rattle.part_law.proofs.laws.decisions_are_true.Goals as goal

pub returns : goal.returns
returns c = decisions_are_true
