use Rattle.world_laws.proofs.Runs.{held}
use Rattle.world_laws.proofs.Agreement.{settles_once, one_final_stamp}
use Rattle.world_laws.proofs.laws.one_outcome.Goals as goal

pub returns : goal.returns
returns c = record {
  settles = λ shape steps. settles_once _ (held shape steps);
  stamps = λ shape steps. one_final_stamp _ (held shape steps);
}
