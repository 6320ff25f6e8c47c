use Rattle.std.proofs.Common.{◌≡◌, ◌<◌}
use Rattle.std.specs.List.{All}
use Rattle.log_node.specs.Sets.{members}
use Rattle.world_code.specs.WorldView.{world_of}
use Rattle.script_meaning.specs.Appends.{ended_colour}
use Rattle.script_in_order.proofs.appends.ended_colour.Given as goal

-- it is the least of the colours that are left
abbrev pub invariant-loop-colour : goal.invariant-loop-colour
invariant-loop-colour l = record {
  least : ended_colour (world_of l.world) l.row l.colour-iterator
      ≡ ended_colour (world_of l.world) l.row (members l.fn.colours);
  low : All (λ c. c < l.world.shape.colours) l.colour-iterator;
}
