use Rattle.tree_fold.proofs.ChangeLaws.{changes_fit}
use Rattle.tree_fold.proofs.laws.changes_fit.Goals as goal

pub returns : goal.returns
returns c = changes_fit
