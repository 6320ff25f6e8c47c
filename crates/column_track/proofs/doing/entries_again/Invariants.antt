use Rattle.column_track.proofs.NextLemmas.{IsSoFar}
use Rattle.column_track.proofs.doing.entries_again.Given as goal

-- the events so far, with what held after each number of them
abbrev pub invariant-loop-entry : goal.invariant-loop-entry
invariant-loop-entry l = IsSoFar l.fn.column l.column l.journal l.entry-index l.marks.items
