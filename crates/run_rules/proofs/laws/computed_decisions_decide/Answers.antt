use Rattle.run_rules.proofs.DecisionsAlike.{computed_decisions_decide}
use Rattle.run_rules.proofs.laws.computed_decisions_decide.Goals as goal

pub returns : goal.returns
returns g = computed_decisions_decide g.region_order_is_unique.ensures g.region_order_is_lawful.ensures g.decisions_are_plain.ensures
