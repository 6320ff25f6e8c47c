use Rattle.run_rules.proofs.ComputedFinds.{computed_finds_are_right}
use Rattle.run_rules.proofs.laws.computed_finds_are_right.Goals as goal

pub returns : goal.returns
returns g = computed_finds_are_right g.region_order_is_lawful.ensures g.decisions_are_plain.ensures
