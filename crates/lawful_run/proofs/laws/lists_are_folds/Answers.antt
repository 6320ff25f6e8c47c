use Rattle.lawful_run.proofs.Folds.{lists_are_folds}
use Rattle.lawful_run.proofs.laws.lists_are_folds.Goals as goal

pub returns : goal.returns
returns c = lists_are_folds
