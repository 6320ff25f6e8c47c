use Rattle.client_law.proofs.Pulls.{trims_stand}
use Rattle.client_law.proofs.laws.trims_stand.Goals as goal

pub returns : goal.returns
returns c = trims_stand
