use Rattle.lawful_run.specs.Callers.{caller_of}
use Rattle.walk_law.proofs.WalkLemmas.{WalkedSo}
use Rattle.walk_law.proofs.walking.walk.Given as goal

-- all steps so far are as is asked, and the keeping counts what is kept behind them
abbrev pub invariant-loop-place : goal.invariant-loop-place
invariant-loop-place g l =
    WalkedSo l.subject l.client (g.C.Check.Asks l.check l.subject (caller_of l.subject.script l.client)) l.place l.keeping
