use Rattle.run_rules.proofs.NinthDecided.{ninth_rule_decided}
use Rattle.run_rules.proofs.laws.ninth_rule_decided.Goals as goal

pub returns : goal.returns
returns _ = ninth_rule_decided
