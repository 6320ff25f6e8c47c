use Rattle.std.proofs.Common.{◌≡◌, ◌≤◌, ◌+◌, List, length}
use Rattle.log_node.specs.declared.forms.Pair.{Pair}
use Rattle.log_node.specs.declared.forms.Form.TheVariants.{PutAll}
use Rattle.object_fold.specs.Nodes.{ObjectNode, keyed_node}
use Rattle.atomic_map.specs.declared.line_writes.LineWrites.{LineWrites}
use Rattle.atomic_map.specs.Writes.{IsWritten}
use Rattle.atomic_map.proofs.line_writes.LineWrites.put_all.Given as goal

-- the pairs so far are put
pub record PutsPairs (old new : LineWrites) (node : ObjectNode) (pairs put : List Pair) : Type 0 where
  pub colours : new.colours ≡ old.colours
  pub room : length pairs ≤ new.writes.spare + length put
  pub writes : IsWritten old node (PutAll put) new

abbrev pub invariant-loop-key : goal.invariant-loop-key
invariant-loop-key l = PutsPairs l.fn.self l.self (keyed_node l.at l.node) l.fn.pairs l.yielded
