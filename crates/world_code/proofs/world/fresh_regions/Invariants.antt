use Rattle.std.proofs.Common.{◌≡◌, map}
use Rattle.std.specs.List.{range_with_len}
use Rattle.world_code.specs.WorldView.{fresh_columns}
use Rattle.world_code.proofs.world.fresh_regions.Given as goal

-- the regions so far
abbrev pub invariant-loop-region : goal.invariant-loop-region
invariant-loop-region l = l.regions.items ≡ map (λ region. fresh_columns region l.shape) (range_with_len 0 l.region)
