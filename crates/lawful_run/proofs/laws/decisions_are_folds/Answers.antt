use Rattle.lawful_run.proofs.Folds.{decisions_are_folds}
use Rattle.lawful_run.proofs.laws.decisions_are_folds.Goals as goal

pub returns : goal.returns
returns c = decisions_are_folds
