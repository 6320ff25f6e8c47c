use Rattle.tree_fold.proofs.PathLaws.{paths_read_as_one}
use Rattle.tree_fold.proofs.laws.paths_read_as_one.Goals as goal

pub returns : goal.returns
returns c = paths_read_as_one
