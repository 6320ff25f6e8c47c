use Rattle.lawful_run.proofs.Returned.{returned_appends_stand}
use Rattle.lawful_run.proofs.laws.returned_appends_stand.Goals as goal

pub returns : goal.returns
returns c = returned_appends_stand
