use Rattle.object_law.proofs.AppendedNodes.{node_is}
use Rattle.object_law.proofs.node_said.node_of.Goals as goal

pub returns : goal.returns
returns c = λ replies caller kept by home is.
    node_is replies c.args.keeping.now caller kept c.args.colours c.args.text c.args.client c.args.own c.floor.result c.rows.result
    c.next_id.result c.in_ok-wants.wants c.row_taken.result by home is c.next_id.ensures c.floor.ensures c.rows.ensures
    c.in_ok-wants.ensures c.row_taken.ensures
