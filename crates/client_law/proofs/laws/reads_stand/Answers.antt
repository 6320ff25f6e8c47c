use Rattle.client_law.proofs.StampedReads.{clear_syncs_on, kept_with_floor, raise_stands, raises_on, reads_stand}
use Rattle.client_law.proofs.laws.reads_stand.Goals as goal

pub returns : goal.returns
returns c = record {
  raise = raise_stands;
  raises = raises_on;
  syncs = clear_syncs_on;
  stand = reads_stand;
  floor = kept_with_floor;
}
