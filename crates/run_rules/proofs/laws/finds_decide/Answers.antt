use Rattle.run_rules.proofs.ComputedNodes.{finds_decide}
use Rattle.run_rules.proofs.laws.finds_decide.Goals as goal

pub returns : goal.returns
returns c = finds_decide
