-- What the computed orders have for consequences.
use Rattle.std.specs.Prelude.{ℕ, List}
use Rattle.std.specs.List.{Contains}
use Rattle.log_node.specs.declared.ids.Counts.{Counts}
use Rattle.log_node.specs.declared.ids.Key.{Key}
use Rattle.log_node.specs.Vectors.{IsWithin}
use Rattle.log_node.specs.Reach.{Chains, Reachable}
use Rattle.col_core.specs.PlayOrder.{IsPlayOrder}
use Rattle.col_core.specs.RegionOrder.{IsRegionOrder}
use Rattle.playback.specs.Orders.{play_order}
use Rattle.playback.specs.Merging.{region_order, AreRising}

-- The computed order is the play order: on the way to a vector that can be reached the first node not yet played is
-- always free, so all are played.
abbrev pub PlayOrderIsLawful : Type 0
PlayOrderIsLawful = (chains : Chains) (from to : Counts) → Reachable chains to → IsWithin from to
    → IsPlayOrder chains from to (play_order chains from to)

-- What is merged of lines that rise is in the order of the region.
abbrev pub RegionOrderIsLawful : Type 0
RegionOrderIsLawful = (stamp : ℕ) (lines : List (List Key))
    → ((line : List Key) → Contains lines line → AreRising line)
    → IsRegionOrder lines stamp (region_order stamp lines)
