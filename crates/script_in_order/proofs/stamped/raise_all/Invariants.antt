use Rattle.std.proofs.Common.{◌≡◌}
use Rattle.log_node.specs.Sets.{members}
use Rattle.world_code.specs.WorldView.{world_of}
use Rattle.script_in_order.proofs.StampedSteps.{RaisedFirst}
use Rattle.script_in_order.proofs.stamped.raise_all.Given as goal

-- the raises so far
abbrev pub invariant-loop-colour : goal.invariant-loop-colour
invariant-loop-colour l = record {
  raises : RaisedFirst (world_of l.fn.world) l.client l.stamp l.colour-iterator (members l.fn.colours)
      (world_of l.world);
  shape : l.world.shape ≡ l.fn.world.shape;
}
