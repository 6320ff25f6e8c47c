use Rattle.ring_ends.specs.Making.{Grows}
use Rattle.ring_ends.proofs.make.joined_with.Given as goal

abbrev pub invariant-loop-other : goal.invariant-loop-other
invariant-loop-other l = Grows l.other-index l.newcomer l.initial.others l.others
