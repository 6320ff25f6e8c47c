use Rattle.walk_law.proofs.NinthLaws.{ninth_is_shown}
use Rattle.walk_law.proofs.laws.ninth_is_shown.Goals as goal

pub returns : goal.returns
returns c = ninth_is_shown c.nodes_change_no_step.ensures
