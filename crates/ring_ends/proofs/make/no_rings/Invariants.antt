use Rattle.ring_ends.specs.NewRings.{AreNewRings}
use Rattle.ring_ends.proofs.make.no_rings.Given as goal

abbrev pub invariant-loop : goal.invariant-loop
invariant-loop l = AreNewRings l.counter 0 l.all.items
