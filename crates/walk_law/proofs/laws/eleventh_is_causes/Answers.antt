use Rattle.walk_law.proofs.EleventhLaws.{eleventh_is_causes}
use Rattle.walk_law.proofs.laws.eleventh_is_causes.Goals as goal

pub returns : goal.returns
returns c = eleventh_is_causes c.finds_tell.ensures c.computed_account_agrees.ensures
