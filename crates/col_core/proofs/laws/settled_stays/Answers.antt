use Rattle.col_core.proofs.IdLemmas.{entered_is_over, settled_stays, singles_stay}
use Rattle.col_core.proofs.laws.settled_stays.Goals as goal

pub returns : goal.returns
returns c = record { over = entered_is_over; settled = settled_stays; alone = singles_stay }
