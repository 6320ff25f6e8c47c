use Rattle.world_laws.proofs.Runs.{held}
use Rattle.world_laws.proofs.Agreement.{fenced_is_nowhere}
use Rattle.world_laws.proofs.laws.fenced_is_nowhere.Goals as goal

pub returns : goal.returns
returns c = λ shape steps. fenced_is_nowhere _ (held shape steps)
