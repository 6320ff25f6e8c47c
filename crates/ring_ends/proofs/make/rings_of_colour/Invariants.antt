use Rattle.ring_ends.specs.Making.{AreJoined}
use Rattle.ring_ends.proofs.make.rings_of_colour.Given as goal

abbrev pub invariant-loop : goal.invariant-loop
invariant-loop l = AreJoined l.counter l.all.items
