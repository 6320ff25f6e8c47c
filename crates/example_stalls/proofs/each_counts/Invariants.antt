use Rattle.std.specs.List.{All}
use Rattle.example_stalls.specs.Stalls.{IsStall}
use Rattle.example_stalls.proofs.each_counts.Given as goal

abbrev pub invariant-loop-place : goal.invariant-loop-place
invariant-loop-place g l = All (IsStall l.store) l.stalls
