use Rattle.tree_fold.proofs.ChangeLaws.{changes_are_plain}
use Rattle.tree_fold.proofs.laws.changes_are_plain.Goals as goal

pub returns : goal.returns
returns c = changes_are_plain
