use Rattle.run_rules.proofs.ShownDecides.{shown_finds_decide}
use Rattle.run_rules.proofs.laws.shown_finds_decide.Goals as goal

pub returns : goal.returns
returns g = shown_finds_decide g.region_order_is_unique.ensures g.region_order_is_lawful.ensures g.decisions_are_plain.ensures
