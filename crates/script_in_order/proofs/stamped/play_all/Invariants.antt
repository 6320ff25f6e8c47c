use Rattle.std.proofs.Common.{◌≡◌, ◌<◌}
use Rattle.std.specs.List.{All}
use Rattle.log_node.specs.Sets.{members}
use Rattle.world_code.specs.WorldView.{world_of}
use Rattle.script_meaning.specs.Stamped.{played}
use Rattle.script_in_order.proofs.stamped.play_all.Given as goal

-- the plays that are left go on from here
abbrev pub invariant-loop-colour : goal.invariant-loop-colour
invariant-loop-colour l = record {
  plays : played l.client (world_of l.world) l.colour-iterator
      ≡ played l.client (world_of l.fn.world) (members l.fn.colours);
  low : All (λ c. c < l.fn.world.shape.colours) l.colour-iterator;
  shape : l.world.shape ≡ l.fn.world.shape;
}
