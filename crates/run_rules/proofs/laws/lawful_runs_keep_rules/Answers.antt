use Rattle.run_rules.proofs.LawfulRules.{lawful_runs_keep_rules}
use Rattle.run_rules.proofs.laws.lawful_runs_keep_rules.Goals as goal

pub returns : goal.returns
returns c = lawful_runs_keep_rules
