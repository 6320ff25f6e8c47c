use Rattle.client_law.proofs.Events.{kept_after, kept_after_looking}
use Rattle.client_law.proofs.Keeping.{kept_stays, nothing_is_kept, starts_within}
use Rattle.client_law.proofs.laws.kept_stays.Goals as goal

pub returns : goal.returns
returns c = record {
  nothing = nothing_is_kept;
  stays = kept_stays;
  starts = starts_within;
  event = kept_after;
  look = kept_after_looking;
}
