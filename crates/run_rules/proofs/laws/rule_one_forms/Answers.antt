use Rattle.run_rules.proofs.WellFormed.{rule_one_forms}
use Rattle.run_rules.proofs.laws.rule_one_forms.Goals as goal

pub returns : goal.returns
returns c = rule_one_forms
