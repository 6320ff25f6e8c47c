use Rattle.walk_law.proofs.SixthLaws.{sixth_is_standing}
use Rattle.walk_law.proofs.sixth.sixth_is_standing.Goals as goal

pub returns : goal.returns
returns c = sixth_is_standing
