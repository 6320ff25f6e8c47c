use Rattle.lawful_run.specs.Callers.{caller_of}
use Rattle.walk_law.proofs.CallerLemmas.{WalkedSo}
use Rattle.object_law.proofs.play_walk.walk.Given as goal

-- all steps so far are as is asked, the keeping counts what is kept behind them, and the objects stand
abbrev pub invariant-loop-place : goal.invariant-loop-place
invariant-loop-place g l =
    WalkedSo l.subject l.client (g.C.PlayCheck.Asks l.subject l.nodes (caller_of l.subject.script l.client)) l.place l.keeping
    × g.C.PlayCheck.Stands l.check l.subject l.nodes
