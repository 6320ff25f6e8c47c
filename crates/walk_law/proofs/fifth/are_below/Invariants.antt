use Rattle.std.proofs.Common.{take, ◌<◌}
use Rattle.std.specs.List.{All}
use Rattle.walk_law.proofs.fifth.are_below.Given as goal

-- all so far
abbrev pub invariant-loop-number : goal.invariant-loop-number
invariant-loop-number l = All (λ n. n < l.end) (take l.number-index l.numbers)
