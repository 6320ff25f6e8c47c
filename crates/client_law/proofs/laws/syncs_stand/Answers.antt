use Rattle.client_law.proofs.Syncs.{kept_after_syncing, plays_stand, syncs_stand, trimmed_there}
use Rattle.client_law.proofs.laws.syncs_stand.Goals as goal

pub returns : goal.returns
returns c = record {
  stand = syncs_stand;
  played = plays_stand;
  kept = kept_after_syncing;
  trimmed = trimmed_there;
}
