use Rattle.std.proofs.Common.{◌≡◌, ◌<◌}
use Rattle.std.specs.List.{All}
use Rattle.log_node.specs.Sets.{members}
use Rattle.world_code.specs.WorldView.{world_of}
use Rattle.script_in_order.proofs.HelpsAndClears.{ClearsFirst}
use Rattle.script_in_order.proofs.clears.clear_all.Given as goal

-- the colours so far, and those that are left
abbrev pub invariant-loop-colour : goal.invariant-loop-colour
invariant-loop-colour l = record {
  clears : ClearsFirst l.by l.key l.colour-iterator (members l.fn.colours) (world_of l.fn.world) (world_of l.world);
  low : All (λ c. c < l.fn.world.shape.colours) l.colour-iterator;
  shape : l.world.shape ≡ l.fn.world.shape;
}
