use Rattle.example_stalls.specs.Stalls.{IsStall}
use Rattle.example_stalls.proofs.shop.sell_all.Given as goal

abbrev pub invariant-loop-cup : goal.invariant-loop-cup
invariant-loop-cup g l = IsStall l.store l.stall
