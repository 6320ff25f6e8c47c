use Rattle.script_meaning.proofs.Stop.LastStops.{scripts_stop_last}
use Rattle.script_meaning.proofs.laws.scripts_stop_last.Goals as goal

pub returns : goal.returns
returns c = scripts_stop_last
