use Rattle.walk_law.proofs.WalkLemmas.{ClientsSo}
use Rattle.walk_law.proofs.walking.each_step.Given as goal

-- the steps of the clients so far are as is asked
abbrev pub invariant-loop-client : goal.invariant-loop-client
invariant-loop-client g l = ClientsSo l.subject (g.C.Check.Asks l.check l.subject) l.client
