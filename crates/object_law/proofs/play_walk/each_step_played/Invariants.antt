use Rattle.walk_law.proofs.CallerLemmas.{ClientsSo}
use Rattle.object_law.proofs.play_walk.each_step_played.Given as goal

-- the steps of the clients so far are as is asked, and the objects stand
abbrev pub invariant-loop-client : goal.invariant-loop-client
invariant-loop-client g l =
    ClientsSo l.subject (g.C.PlayCheck.Asks l.subject l.nodes) l.client × g.C.PlayCheck.Stands l.check l.subject l.nodes
