use Rattle.std.proofs.Common.{◌≡◌, ◌<◌, ℕ, false}
use Rattle.world_code.specs.WorldView.{world_of}
use Rattle.script_in_order.specs.CausalFolds.{is_next}
use Rattle.script_in_order.proofs.causal.next_region.Given as goal

-- of no region that was tested the next node may be played
abbrev pub invariant-loop-region : goal.invariant-loop-region
invariant-loop-region l = (r : ℕ) → r < l.region → is_next (world_of l.world) l.own l.colour l.counts r ≡ false
