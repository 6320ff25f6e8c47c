use Rattle.object_law.proofs.decisions_noted.unknown_of.Goals as goal

pub returns-clause-none : goal.returns-clause-none
returns-clause-none c = c.loop.invariant.1
