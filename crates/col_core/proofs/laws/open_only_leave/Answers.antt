use Rattle.col_core.proofs.IdLemmas.{opens_above, only_leave, clear_stands}
use Rattle.col_core.proofs.laws.open_only_leave.Goals as goal

pub returns : goal.returns
returns c = record { above = opens_above; leave = only_leave; clear = clear_stands }
