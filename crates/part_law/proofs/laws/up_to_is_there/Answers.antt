use Rattle.part_law.proofs.UpTo.{up_to_is_there}
use Rattle.part_law.proofs.laws.up_to_is_there.Goals as goal

pub returns : goal.returns
returns c = up_to_is_there
