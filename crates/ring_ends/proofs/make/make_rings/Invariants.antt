use Rattle.ring_ends.specs.NewRings.{AreNewRings}
use Rattle.ring_ends.proofs.make.make_rings.Given as goal

abbrev pub invariant-loop : goal.invariant-loop
invariant-loop l = AreNewRings l.shape.regions l.counter l.all.items
