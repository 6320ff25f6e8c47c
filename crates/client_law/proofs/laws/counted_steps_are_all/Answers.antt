use Rattle.client_law.proofs.Counting.{made_on_top, places_counted, places_grow, places_stand, places_stay, steps_among_made, steps_counted}
use Rattle.client_law.proofs.Keeping.{steps_at_end}
use Rattle.client_law.proofs.laws.counted_steps_are_all.Goals as goal

pub returns : goal.returns
returns c = record {
  grow = places_grow;
  stand = places_stand;
  counted = places_counted;
  stay = places_stay;
  among = steps_among_made;
  among_counted = steps_counted;
  on_top = made_on_top;
  at_end = steps_at_end;
}
