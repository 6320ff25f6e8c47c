use Rattle.run_rules.proofs.Numbers.{least_is_one}
use Rattle.run_rules.proofs.laws.least_is_one.Goals as goal

pub returns : goal.returns
returns c = least_is_one
