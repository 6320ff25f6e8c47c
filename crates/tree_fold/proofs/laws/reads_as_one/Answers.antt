use Rattle.tree_fold.proofs.ChangeLaws.{reads_as_one}
use Rattle.tree_fold.proofs.laws.reads_as_one.Goals as goal

pub returns : goal.returns
returns c = reads_as_one
