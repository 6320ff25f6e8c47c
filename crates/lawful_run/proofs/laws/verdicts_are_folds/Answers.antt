use Rattle.lawful_run.proofs.Folds.{verdicts_are_folds}
use Rattle.lawful_run.proofs.laws.verdicts_are_folds.Goals as goal

pub returns : goal.returns
returns c = verdicts_are_folds
