use Rattle.world_laws.proofs.Runs.{held}
use Rattle.world_laws.proofs.Wanted.{wanted, stays_within_cuts}
use Rattle.world_laws.proofs.laws.stays_within_cuts.Goals as goal

pub returns : goal.returns
returns c = λ shape steps. stays_within_cuts _ (held shape steps) (wanted shape steps)
