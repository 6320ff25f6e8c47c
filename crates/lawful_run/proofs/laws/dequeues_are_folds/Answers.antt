use Rattle.lawful_run.proofs.Folds.{dequeues_are_folds}
use Rattle.lawful_run.proofs.laws.dequeues_are_folds.Goals as goal

pub returns : goal.returns
returns c = dequeues_are_folds
