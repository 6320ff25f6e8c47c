use Rattle.std.proofs.Common.{◌+◌, ◌-◌}
use Rattle.log_node.specs.Vectors.{at}
use Rattle.object_fold.specs.CausalStates.{counts_of}
use Rattle.world_code.specs.WorldView.{world_of}
use Rattle.script_in_order.specs.CausalFolds.{IsCausalFold}
use Rattle.script_in_order.proofs.causal.feed_all.Given as goal

-- the fold is right after each node
abbrev pub invariant-loop-region : goal.invariant-loop-region
invariant-loop-region l = IsCausalFold (world_of l.world) l.own l.colour l.map

abbrev pub decreases-loop-region : goal.decreases-loop-region
decreases-loop-region l =
    let counts = counts_of l.map in
    (at l.cut 0 - at counts 0) + (at l.cut 1 - at counts 1) + (at l.cut 2 - at counts 2) + (at l.cut 3 - at counts 3)
