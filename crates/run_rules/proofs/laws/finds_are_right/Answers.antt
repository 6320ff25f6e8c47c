use Rattle.run_rules.proofs.FindsAlike.{finds_are_right}
use Rattle.run_rules.proofs.laws.finds_are_right.Goals as goal

pub returns : goal.returns
returns c = finds_are_right
