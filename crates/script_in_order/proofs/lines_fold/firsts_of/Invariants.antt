use Rattle.std.proofs.Common.{◌<◌}
use Rattle.std.specs.List.{All}
use Rattle.log_node.specs.Sets.{members}
use Rattle.world_code.specs.WorldView.{world_of}
use Rattle.script_in_order.proofs.LinesFolds.{AreReadFirst}
use Rattle.script_in_order.proofs.lines_fold.firsts_of.Given as goal

-- the lines of the colours so far, and the colours that are left
abbrev pub invariant-loop-colour : goal.invariant-loop-colour
invariant-loop-colour l = record {
  lines : AreReadFirst (world_of l.world) l.read.client l.read.stamp l.colour-iterator (members l.fn.read.colours)
      l.firsts.items;
  low : All (λ c. c < l.world.shape.colours) l.colour-iterator;
}
