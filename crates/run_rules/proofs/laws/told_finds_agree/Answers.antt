use Rattle.run_rules.proofs.FindsAlike.{finds_agree}
use Rattle.run_rules.proofs.laws.told_finds_agree.Goals as goal

pub returns : goal.returns
returns g = finds_agree g.region_order_is_unique.ensures g.decisions_are_plain.ensures
