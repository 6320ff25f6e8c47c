use Rattle.col_core.proofs.Facts.{event_stays, position_stays, look_stays, text_stays, mark_stays, outcome_stays}
use Rattle.col_core.proofs.laws.seen_stays_true.Goals as goal

pub returns : goal.returns
returns c = λ old new later. record {
  event = event_stays old new later;
  position = position_stays old new later;
  look = look_stays old new later;
  text = text_stays old new later;
  mark = mark_stays old new later;
  outcome = outcome_stays old new later;
}
