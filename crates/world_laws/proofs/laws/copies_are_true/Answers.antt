use Rattle.world_laws.proofs.Runs.{held}
use Rattle.world_laws.proofs.Bases.{trimmed_is_held}
use Rattle.world_laws.proofs.laws.copies_are_true.Goals as goal

pub returns-clause-copies : goal.returns-clause-copies
returns-clause-copies c = λ shape steps. (held shape steps).copies

pub returns-clause-trimmed : goal.returns-clause-trimmed
returns-clause-trimmed c = λ shape steps. trimmed_is_held _ (held shape steps)
