use Rattle.std.proofs.Common.{◌≡◌, take, drop}
use Rattle.world_laws.specs.Worlds.{run_steps}
use Rattle.world_code.specs.WorldView.{world_of}
use Rattle.example_orders.specs.Orders.{writer}
use Rattle.example_orders.proofs.orders.write_on.Given as goal

-- the world after the steps so far
abbrev pub invariant-loop-number : goal.invariant-loop-number
invariant-loop-number l = world_of l.world ≡ run_steps (world_of l.fn.world) (drop l.from (take l.number writer))
