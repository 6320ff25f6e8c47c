use Rattle.run_rules.proofs.Decided.{later_rules_decided}
use Rattle.run_rules.proofs.laws.later_rules_decided.Goals as goal

pub returns : goal.returns
returns c = later_rules_decided
