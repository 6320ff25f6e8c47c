use Rattle.std.proofs.Common.{◌≡◌}
use Rattle.column.specs.Inside.{least_noted}
use Rattle.column.proofs.trimming.least_of.Given as goal

-- the least so far
abbrev pub invariant-loop-region : goal.invariant-loop-region
invariant-loop-region l = l.least ≡ least_noted l.notes l.own l.region l.bound
