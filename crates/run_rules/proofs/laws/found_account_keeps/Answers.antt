use Rattle.run_rules.proofs.Decided.{found_account_keeps}
use Rattle.run_rules.proofs.laws.found_account_keeps.Goals as goal

pub returns : goal.returns
returns g = found_account_keeps g.region_order_is_unique.ensures g.decisions_are_plain.ensures
