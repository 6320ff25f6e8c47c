use Rattle.col_core.proofs.IdLemmas.{open_is_proposed, proposed_is_open, proposed_once}
use Rattle.col_core.proofs.laws.open_is_proposed.Goals as goal

pub returns : goal.returns
returns c = record { proposed = open_is_proposed; stays = proposed_is_open; once = proposed_once }
