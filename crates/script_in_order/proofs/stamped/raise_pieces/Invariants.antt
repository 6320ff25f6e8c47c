use Rattle.std.proofs.Common.{◌≡◌, ◌<◌, ◌++◌, map}
use Rattle.std.specs.List.{All}
use Rattle.log_node.specs.Sets.{members}
use Rattle.world_code.specs.WorldView.{world_of}
use Rattle.script_meaning.specs.Stamped.{raise_in}
use Rattle.script_in_order.proofs.stamped.raise_pieces.Given as goal

-- the raises so far, and the colours that are left
abbrev pub invariant-loop-colour : goal.invariant-loop-colour
invariant-loop-colour l = record {
  made : l.raises.items ++ map (raise_in (world_of l.world) l.client l.stamp) l.colour-iterator
      ≡ map (raise_in (world_of l.world) l.client l.stamp) (members l.fn.colours);
  low : All (λ c. c < l.world.shape.colours) l.colour-iterator;
}
