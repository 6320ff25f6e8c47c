use Rattle.std.proofs.Common.{◌≤◌, ◌+◌}
use Rattle.world_laws.specs.Completing.{colours_of}
use Rattle.world_code.specs.WorldView.{world_of}
use Rattle.world_code.proofs.AllowedSteps.{AreSettled}
use Rattle.world_code.proofs.world.World.settle_first.Given as goal

-- the settlings in the colours so far
abbrev pub invariant-loop-colour : goal.invariant-loop-colour
invariant-loop-colour l = record {
  settled : AreSettled (world_of l.fn.self) l.by l.row l.limit l.colour-iterator
      (colours_of (world_of l.fn.self) l.row) (world_of l.self) l.taken;
  few : l.taken.done + l.taken.left ≤ l.limit;
}
