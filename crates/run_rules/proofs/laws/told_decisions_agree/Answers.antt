use Rattle.run_rules.proofs.DecisionsAlike.{told_decisions_agree}
use Rattle.run_rules.proofs.laws.told_decisions_agree.Goals as goal

pub returns : goal.returns
returns g = told_decisions_agree g.region_order_is_unique.ensures g.region_order_is_lawful.ensures g.decisions_are_plain.ensures
