use Rattle.run_rules.proofs.Decided.{first_rules_decided}
use Rattle.run_rules.proofs.laws.first_rules_decided.Goals as goal

pub returns : goal.returns
returns c = first_rules_decided
