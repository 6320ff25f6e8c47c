use Rattle.run_rules.proofs.ComputedNodes.{computed_account_decides}
use Rattle.run_rules.proofs.laws.computed_account_decides.Goals as goal

pub returns : goal.returns
returns c = computed_account_decides
