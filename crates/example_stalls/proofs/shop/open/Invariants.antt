use Rattle.std.specs.List.{AllZip}
use Rattle.example_stalls.specs.Stalls.{IsNewStall}
use Rattle.example_stalls.proofs.shop.open.Given as goal

-- the stalls so far
abbrev pub invariant-loop-client : goal.invariant-loop-client
invariant-loop-client l = AllZip IsNewStall l.yielded l.stalls.items
