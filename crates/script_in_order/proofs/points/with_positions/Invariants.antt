use Rattle.std.proofs.Common.{◌≡◌}
use Rattle.world_code.specs.WorldView.{world_of}
use Rattle.script_in_order.specs.Points.{standing_in}
use Rattle.script_in_order.proofs.ListsChanged.{changed}
use Rattle.script_in_order.proofs.points.with_positions.Given as goal

-- the points so far have their positions
abbrev pub invariant-loop-point : goal.invariant-loop-point
invariant-loop-point l =
    l.point-items ≡ changed (standing_in (world_of l.world) l.client l.key.id) l.point-index l.fn.points.items
