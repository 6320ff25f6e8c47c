use Rattle.client_law.proofs.Pulls.{kept_after_gives, kept_after_pulling, pulls_stand}
use Rattle.client_law.proofs.laws.pulls_stand.Goals as goal

pub returns : goal.returns
returns c = record {
  stand = pulls_stand;
  kept = kept_after_pulling;
  no_memory = kept_after_gives;
}
