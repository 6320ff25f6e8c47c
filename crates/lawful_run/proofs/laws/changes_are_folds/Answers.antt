use Rattle.lawful_run.proofs.Folds.{changes_are_folds}
use Rattle.lawful_run.proofs.laws.changes_are_folds.Goals as goal

pub returns : goal.returns
returns c = changes_are_folds
