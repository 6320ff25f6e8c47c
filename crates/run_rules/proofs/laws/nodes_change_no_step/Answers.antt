use Rattle.run_rules.proofs.NodesTold.{nodes_change_no_step}
use Rattle.run_rules.proofs.laws.nodes_change_no_step.Goals as goal

pub returns : goal.returns
returns c = nodes_change_no_step
