use Rattle.run_rules.proofs.RulesLawful.{rules_make_lawful}
use Rattle.run_rules.proofs.laws.rules_make_lawful.Goals as goal

pub returns : goal.returns
returns c = rules_make_lawful
