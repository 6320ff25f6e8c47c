use Rattle.run_rules.proofs.ComputedRules.{computed_finds_keep}
use Rattle.run_rules.proofs.laws.computed_finds_keep.Goals as goal

pub returns : goal.returns
returns g = computed_finds_keep g.region_order_is_unique.ensures g.region_order_is_lawful.ensures g.decisions_are_plain.ensures
