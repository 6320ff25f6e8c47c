use Rattle.std.proofs.Common.{◌≡◌, ◌<◌, ◌++◌}
use Rattle.std.specs.List.{All}
use Rattle.log_node.specs.Sets.{members}
use Rattle.world_code.specs.WorldView.{world_of}
use Rattle.script_in_order.specs.Points.{places_in}
use Rattle.script_in_order.proofs.points.places.Given as goal

-- the places so far, and the colours that are left
abbrev pub invariant-loop-colour : goal.invariant-loop-colour
invariant-loop-colour l = record {
  made : l.places.items ++ places_in (world_of l.world) l.client l.colour-iterator
      ≡ places_in (world_of l.world) l.client (members l.fn.colours);
  low : All (λ c. c < l.world.shape.colours) l.colour-iterator;
}
