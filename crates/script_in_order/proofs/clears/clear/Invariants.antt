use Rattle.std.proofs.Common.{◌≡◌}
use Rattle.world_code.specs.WorldView.{world_of}
use Rattle.script_meaning.specs.Helping.{helped_times}
use Rattle.script_in_order.specs.Helps.{HelpsLead}
use Rattle.script_in_order.proofs.clears.clear.Given as goal

-- the helps so far
abbrev pub invariant-loop-help : goal.invariant-loop-help
invariant-loop-help l = record {
  helps : HelpsLead (λ grants h. helped_times l.help grants l.by l.colour l.key h) (world_of l.initial.world)
      (world_of l.world);
  shape : l.world.shape ≡ l.initial.world.shape;
}
