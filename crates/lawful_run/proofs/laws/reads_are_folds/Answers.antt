use Rattle.lawful_run.proofs.Folds.{reads_are_folds}
use Rattle.lawful_run.proofs.laws.reads_are_folds.Goals as goal

pub returns : goal.returns
returns c = reads_are_folds
