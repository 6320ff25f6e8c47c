use Rattle.std.proofs.Common.{◌≡◌, replicate, []}
use Rattle.walk_law.proofs.keeping.Keeping.new.Given as goal

abbrev pub invariant-loop : goal.invariant-loop
invariant-loop l = l.made.items ≡ replicate l.counter []
