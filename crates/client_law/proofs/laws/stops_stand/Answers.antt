use Rattle.client_law.proofs.Rows.{stops_stand}
use Rattle.client_law.proofs.laws.stops_stand.Goals as goal

pub returns : goal.returns
returns c = stops_stand
