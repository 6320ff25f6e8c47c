use Rattle.std.proofs.Common.{◌∙◌, ap, map}
use Rattle.log_node.specs.Sets.{members}
use Rattle.object_fold.specs.Transactions.{value_of, writes_after}
use Rattle.world_code.specs.WorldView.{world_of}
use Rattle.script_meaning.specs.Dequeues.{object_node_at}
use Rattle.script_meaning.specs.Gets.{key_answers}
use Rattle.script_meaning.specs.Stamped.{keys_read}
use Rattle.script_in_order.proofs.tx_answers.LinesFold+TxState.found.Goals as goal

pub returns-clause-found : goal.returns-clause-found
returns-clause-found c =
    let w = world_of c.args.world.now in
    let read = c.args.read in
    let nodes = map (object_node_at w) (keys_read w read.client read.stamp (members read.colours)) in
    let is = c.in_ok-fold_to.ensures.ok in (
      c.in_ok-answers.ensures nodes is ∙ ap (key_answers (value_of (writes_after nodes))) c.as_slice.ensures,
      c.in_ok-versions.ensures nodes is,
    )
