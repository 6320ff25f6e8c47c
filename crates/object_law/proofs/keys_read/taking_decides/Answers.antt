use Rattle.object_law.proofs.ReadDecides.{taking_decides}
use Rattle.object_law.proofs.keys_read.taking_decides.Goals as goal

pub returns : goal.returns
returns c = taking_decides
