use Rattle.script_meaning.proofs.Run.ExactReports.{runs_are_exact}
use Rattle.script_meaning.proofs.laws.runs_are_exact.Goals as goal

pub returns : goal.returns
returns c = runs_are_exact c.reads_back.ensures (c.reads_back-2.ensures, c.names_are_answered.ensures)
