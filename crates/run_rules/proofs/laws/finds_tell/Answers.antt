use Rattle.run_rules.proofs.ReportsTell.{finds_tell}
use Rattle.run_rules.proofs.laws.finds_tell.Goals as goal

pub returns : goal.returns
returns c = finds_tell
