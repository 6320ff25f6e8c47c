use Rattle.run_rules.proofs.Computed.{computed_account_keeps}
use Rattle.run_rules.proofs.laws.computed_account_keeps.Goals as goal

pub returns : goal.returns
returns c = computed_account_keeps
