use Rattle.world_laws.proofs.Runs.{held}
use Rattle.world_laws.proofs.Completion.{can_complete}
use Rattle.world_laws.proofs.laws.can_complete.Goals as goal

pub returns : goal.returns
returns c = λ shape steps. can_complete _ (held shape steps)
