use Rattle.std.proofs.Common.{◌≡◌, take}
use Rattle.walk_law.specs.Twelfth.{opens_in}
use Rattle.walk_law.proofs.opens.Opens.of_columns.Given as goal

-- those of the columns so far
abbrev pub invariant-loop-at : goal.invariant-loop-at
invariant-loop-at l = l.by_column.items ≡ opens_in (take l.at l.columns)
