-- What contracts see of a node that entered a column.
use Rattle.log_node.specs.declared.ids.Counts.{Counts}
use Rattle.log_node.specs.declared.node.Node.{Node}

-- a node, and what it needs in the column
pub record EnteredNode : Type 0 where
  pub needs : Counts
  pub node : Node
