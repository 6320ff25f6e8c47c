use Rattle.run_rules.proofs.LawfulRules.{broken_is_unlawful}
use Rattle.run_rules.proofs.laws.broken_is_unlawful.Goals as goal

pub returns : goal.returns
returns c = broken_is_unlawful
