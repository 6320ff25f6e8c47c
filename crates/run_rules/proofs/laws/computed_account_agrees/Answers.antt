use Rattle.run_rules.proofs.Computed.{computed_account_agrees}
use Rattle.run_rules.proofs.laws.computed_account_agrees.Goals as goal

pub returns : goal.returns
returns c = computed_account_agrees
