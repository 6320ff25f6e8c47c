use Rattle.std.proofs.Common.{◌≡◌, ◌≤◌, ◌+◌, length, drop}
use Rattle.log_node.specs.declared.limits.TheConstants.{MAX_COLOURS}
use Rattle.col_core.specs.Rows.{node_wants, wants_of}
use Rattle.script_in_order.proofs.causal.wants_of.Given as goal

-- what the node wants stands beside the colours that are left
abbrev pub invariant-loop-other : goal.invariant-loop-other
invariant-loop-other l = record {
  left : wants_of l.other-iterator (drop l.place l.node.wants) l.colour ≡ node_wants l.node l.colour;
  few : l.place + length l.other-iterator ≤ MAX_COLOURS;
}
