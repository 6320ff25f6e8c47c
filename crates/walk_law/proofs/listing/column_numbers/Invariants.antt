use Rattle.std.proofs.Common.{◌≡◌, ◌++◌, map}
use Rattle.std.specs.List.{range_with_len}
use Rattle.walk_law.proofs.ListedLemmas.{pair_with, rows_to}
use Rattle.walk_law.proofs.listing.column_numbers.Given as goal

-- all of the regions so far
abbrev pub invariant-loop-region : goal.invariant-loop-region
invariant-loop-region l = l.numbers.items ≡ rows_to l.fn.colours l.region

-- and those of this region so far
abbrev pub invariant-loop-colour : goal.invariant-loop-colour
invariant-loop-colour l =
    l.numbers.items ≡ rows_to l.fn.colours l.region ++ map (pair_with l.region) (range_with_len 0 l.colour)
