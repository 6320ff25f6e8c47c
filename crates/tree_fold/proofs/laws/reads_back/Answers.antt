use Rattle.tree_fold.proofs.ChangeLaws.{reads_back}
use Rattle.tree_fold.proofs.laws.reads_back.Goals as goal

pub returns : goal.returns
returns c = reads_back
