use Rattle.tree_fold.proofs.ChangeLaws.{forms_are_no_changes}
use Rattle.tree_fold.proofs.laws.forms_are_no_changes.Goals as goal

pub returns : goal.returns
returns c = forms_are_no_changes
