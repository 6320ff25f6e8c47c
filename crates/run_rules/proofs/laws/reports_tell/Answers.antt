use Rattle.run_rules.proofs.ReportsTell.{reports_tell}
use Rattle.run_rules.proofs.laws.reports_tell.Goals as goal

pub returns : goal.returns
returns c = reports_tell
