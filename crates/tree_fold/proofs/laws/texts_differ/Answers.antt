use Rattle.tree_fold.proofs.ChangeLaws.{texts_differ}
use Rattle.tree_fold.proofs.laws.texts_differ.Goals as goal

pub returns : goal.returns
returns c = texts_differ
