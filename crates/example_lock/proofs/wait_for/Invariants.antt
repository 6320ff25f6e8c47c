use Rattle.example_lock.specs.Desks.{IsDesk}
use Rattle.example_lock.proofs.wait_for.Given as goal

abbrev pub invariant-loop : goal.invariant-loop
invariant-loop g l = IsDesk l.store l.desk
