use Rattle.walk_law.proofs.FourthLemmas.{StepsSo}
use Rattle.walk_law.proofs.RowSteps.{past_marks}
use Rattle.walk_law.proofs.own_seen.OwnSeen.names_steps_of.Given as goal

-- those of the colours up to the mark
abbrev pub invariant-loop-mark : goal.invariant-loop-mark
invariant-loop-mark l =
    StepsSo l.subject l.count l.self l.initial.behind l.behind (past_marks 0 l.marks l.mark-index)
