use Rattle.run_rules.proofs.NodesAlike.{told_nodes_agree}
use Rattle.run_rules.proofs.laws.told_nodes_agree.Goals as goal

pub returns : goal.returns
returns c = told_nodes_agree
