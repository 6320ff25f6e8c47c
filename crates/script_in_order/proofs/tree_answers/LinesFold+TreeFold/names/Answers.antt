use Rattle.std.proofs.Common.{map}
use Rattle.log_node.specs.Sets.{members}
use Rattle.world_code.specs.WorldView.{world_of}
use Rattle.script_meaning.specs.Dequeues.{object_node_at}
use Rattle.script_meaning.specs.Stamped.{keys_read}
use Rattle.script_in_order.proofs.tree_answers.LinesFold+TreeFold.names.Goals as goal

pub returns-clause-names : goal.returns-clause-names
returns-clause-names c =
    let w = world_of c.args.world.now in
    let read = c.args.read in
    c.names_in.ensures (map (object_node_at w) (keys_read w read.client read.stamp (members read.colours))) c.in_ok-fold_to.ensures.ok
