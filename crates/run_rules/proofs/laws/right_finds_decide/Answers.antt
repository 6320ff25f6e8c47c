use Rattle.run_rules.proofs.FurtherRules.{right_finds_decide}
use Rattle.run_rules.proofs.laws.right_finds_decide.Goals as goal

pub returns : goal.returns
returns g = right_finds_decide g.region_order_is_unique.ensures g.decisions_are_plain.ensures
