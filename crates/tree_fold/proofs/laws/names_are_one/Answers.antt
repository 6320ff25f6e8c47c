use Rattle.tree_fold.proofs.ListedLemmas.{names_are_one}
use Rattle.tree_fold.proofs.laws.names_are_one.Goals as goal

pub returns : goal.returns
returns c = names_are_one
