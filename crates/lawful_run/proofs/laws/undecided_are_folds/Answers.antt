use Rattle.lawful_run.proofs.Folds.{undecided_are_folds}
use Rattle.lawful_run.proofs.laws.undecided_are_folds.Goals as goal

pub returns : goal.returns
returns c = undecided_are_folds
