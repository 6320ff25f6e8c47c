use Rattle.client_law.proofs.Replies.{ended_alone, ended_in_colour, gave_for_memory, lacked_there, pulled_there, stood_alone, stood_next, moved_on, stood_in_all, stopped_within, synced_there, trimmed_to, went_for_memory}
use Rattle.client_law.proofs.laws.replies_are_explained.Goals as goal

pub returns : goal.returns
returns c = record {
  alone = stood_alone;
  next = stood_next;
  moved = moved_on;
  several = stood_in_all;
  stamp_end = ended_alone;
  gone = ended_in_colour;
  no_memory = went_for_memory;
  stopped = stopped_within;
  synced = synced_there;
  trimmed = lacked_there;
  pulled = pulled_there;
  gave = gave_for_memory;
  based = trimmed_to;
}
