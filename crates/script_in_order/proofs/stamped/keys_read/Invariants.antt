use Rattle.std.proofs.Common.{◌≡◌, ◌<◌}
use Rattle.std.specs.List.{All}
use Rattle.log_node.specs.Sets.{members}
use Rattle.world_code.specs.WorldView.{world_of}
use Rattle.script_meaning.specs.Stamped.{keys_read}
use Rattle.script_in_order.proofs.StampedSteps.{keys_with}
use Rattle.script_in_order.proofs.stamped.keys_read.Given as goal

-- the keys so far, and the colours that are left
abbrev pub invariant-loop-colour : goal.invariant-loop-colour
invariant-loop-colour l = record {
  keys : keys_with (world_of l.world) l.client l.stamp l.keys.items l.colour-iterator
      ≡ keys_read (world_of l.world) l.client l.stamp (members l.fn.colours);
  low : All (λ c. c < l.world.shape.colours) l.colour-iterator;
}
