use Rattle.script_meaning.proofs.Run.LawfulReports.{runs_are_lawful}
use Rattle.script_meaning.proofs.laws.runs_are_lawful.Goals as goal

pub returns : goal.returns
returns c = runs_are_lawful c.reads_back.ensures (c.reads_back-2.ensures, c.names_are_answered.ensures)
