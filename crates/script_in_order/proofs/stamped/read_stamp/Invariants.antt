use Rattle.std.proofs.Common.{◌≡◌, ◌<◌}
use Rattle.std.specs.List.{All}
use Rattle.log_node.specs.Sets.{members}
use Rattle.world_code.specs.WorldView.{world_of}
use Rattle.script_meaning.specs.Stamped.{read_stamp}
use Rattle.script_in_order.proofs.StampedSteps.{stamp_with}
use Rattle.script_in_order.proofs.stamped.read_stamp.Given as goal

-- the stamp so far, and the colours that are left
abbrev pub invariant-loop-colour : goal.invariant-loop-colour
invariant-loop-colour l = record {
  stamp : stamp_with (world_of l.world) l.client l.stamp l.colour-iterator
      ≡ read_stamp (world_of l.world) l.client (members l.fn.colours);
  low : All (λ c. c < l.world.shape.colours) l.colour-iterator;
}
