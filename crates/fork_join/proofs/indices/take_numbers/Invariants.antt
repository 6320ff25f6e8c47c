use Rattle.std.specs.List.{All}
use Rattle.fork_join.specs.Given.{IsGiven}
use Rattle.fork_join.proofs.indices.take_numbers.Given as goal

-- a call with its number gave what is kept so far
abbrev pub invariant-loop : goal.invariant-loop
invariant-loop g l = All (IsGiven g.F.Fn l.f l.count) l.mine.items
