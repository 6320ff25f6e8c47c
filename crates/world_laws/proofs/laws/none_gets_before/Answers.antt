use Rattle.world_laws.proofs.Runs.{held}
use Rattle.world_laws.proofs.Later.{none_gets_before}
use Rattle.world_laws.proofs.laws.none_gets_before.Goals as goal

pub returns : goal.returns
returns c = λ shape steps. none_gets_before _ (held shape steps)
