use Rattle.lawful_run.proofs.Folds.{gets_are_folds}
use Rattle.lawful_run.proofs.laws.gets_are_folds.Goals as goal

pub returns : goal.returns
returns c = gets_are_folds
