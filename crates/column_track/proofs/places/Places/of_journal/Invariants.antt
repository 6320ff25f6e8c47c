use Rattle.std.proofs.Common.{take}
use Rattle.column_track.specs.Doing.{ArePlaces}
use Rattle.column_track.proofs.places.Places.of_journal.Given as goal

-- the places of the ids so far
abbrev pub invariant-loop-at : goal.invariant-loop-at
invariant-loop-at l = ArePlaces (take l.at l.journal) l.places
