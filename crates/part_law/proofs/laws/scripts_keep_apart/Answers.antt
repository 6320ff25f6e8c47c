use Rattle.part_law.proofs.KeptApart.{scripts_keep_apart}
use Rattle.part_law.proofs.laws.scripts_keep_apart.Goals as goal

pub returns : goal.returns
returns c = scripts_keep_apart
