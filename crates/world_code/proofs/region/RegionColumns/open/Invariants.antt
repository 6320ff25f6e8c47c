use Rattle.std.proofs.Common.{◌≡◌, map}
use Rattle.std.specs.List.{range_with_len}
use Rattle.column.specs.Columns.{new_column}
use Rattle.world_code.proofs.region.RegionColumns.open.Given as goal

-- the columns so far
abbrev pub invariant-loop-colour : goal.invariant-loop-colour
invariant-loop-colour l = l.items.items
    ≡ map (λ colour. new_column l.region colour l.shape.regions) (range_with_len 0 l.colour)
