use Rattle.walk_law.proofs.ClosingLemmas.{ShowsTo}
use Rattle.walk_law.proofs.journals.shows_queue.Given as goal

-- the entries so far are those shown
abbrev pub invariant-loop-at : goal.invariant-loop-at
invariant-loop-at l = ShowsTo l.track.journal l.queue l.at
