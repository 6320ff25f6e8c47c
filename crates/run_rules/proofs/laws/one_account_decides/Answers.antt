use Rattle.run_rules.proofs.RulesAlike.{one_account_decides}
use Rattle.run_rules.proofs.laws.one_account_decides.Goals as goal

pub returns : goal.returns
returns c = one_account_decides
