-- Where a node can be added to a vector, and how many it does not count.
use Rattle.std.specs.Prelude.{◌≡◌, ℕ, ◌+◌, ◌-◌, ◌<◌, ◌^◌, true, map, length, slice_get}
use Rattle.std.specs.List.{sum}
use Rattle.log_node.specs.declared.ids.Counts.{Counts}
use Rattle.log_node.specs.Vectors.{at, all_regions}
use Rattle.log_node.specs.Reach.{Chains, is_covered}

-- this region's next node can be added
pub record IsFree (chains : Chains) (v : Counts) (region : ℕ) : Type 0 where
  pub in_range : region < 4
  pub covered : is_covered v (slice_get (chains region) (at v region)) ≡ true
  pub room : at v region + 1 < 2 ^ 64

-- how many nodes the vector does not count
abbrev pub left : Chains → Counts → ℕ
left chains v = sum (map (λ region. length (chains region) - at v region) all_regions)
