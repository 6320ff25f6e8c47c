use Rattle.client_law.proofs.AppendOne.{appends_stand, kept_after_append, no_stamp_was_left, wants_are_starts}
use Rattle.client_law.proofs.laws.appends_stand.Goals as goal

pub returns : goal.returns
returns c = record {
  wants = wants_are_starts;
  stand = appends_stand;
  kept = kept_after_append;
  stamp_end = no_stamp_was_left;
}
