use Rattle.run_rules.proofs.Decided.{found_account_decides}
use Rattle.run_rules.proofs.laws.found_account_decides.Goals as goal

pub returns : goal.returns
returns g = found_account_decides
