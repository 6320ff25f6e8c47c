use Rattle.object_law.proofs.DecidedLaws.{decisions_stand}
use Rattle.object_law.proofs.decided_laws.decisions_stand.Goals as goal

pub returns : goal.returns
returns c = decisions_stand c.finds_tell.ensures c.found_account_decides.ensures
