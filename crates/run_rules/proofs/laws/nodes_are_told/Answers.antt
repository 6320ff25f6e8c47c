use Rattle.run_rules.proofs.NodesTold.{nodes_are_told}
use Rattle.run_rules.proofs.laws.nodes_are_told.Goals as goal

pub returns : goal.returns
returns c = nodes_are_told
