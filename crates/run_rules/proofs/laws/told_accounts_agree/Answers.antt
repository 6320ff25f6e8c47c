use Rattle.run_rules.proofs.OneAccount.{told_accounts_agree}
use Rattle.run_rules.proofs.laws.told_accounts_agree.Goals as goal

pub returns : goal.returns
returns c = told_accounts_agree
