use Rattle.run_rules.proofs.FurtherRules.{same_finds_decide}
use Rattle.run_rules.proofs.laws.same_finds_decide.Goals as goal

pub returns : goal.returns
returns c = same_finds_decide
