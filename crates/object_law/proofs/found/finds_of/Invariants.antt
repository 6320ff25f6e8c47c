use Rattle.object_law.specs.Found.{AreFoundPlays, AreFoundTo}
use Rattle.object_law.proofs.found.finds_of.Given as goal

-- what the reads so far found
abbrev pub invariant-loop-at : goal.invariant-loop-at
invariant-loop-at l = AreFoundTo l.subject l.reads.items l.at l.finds × AreFoundPlays l.subject l.plays
