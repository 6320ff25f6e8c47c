use Rattle.tree_fold.proofs.ListedLemmas.{names_are_answered}
use Rattle.tree_fold.proofs.laws.names_are_answered.Goals as goal

pub returns : goal.returns
returns c = names_are_answered
