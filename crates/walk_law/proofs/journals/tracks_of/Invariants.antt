use Rattle.walk_law.proofs.ClosingLemmas.{AreTracksTo}
use Rattle.walk_law.proofs.journals.tracks_of.Given as goal

-- the tracks of the columns so far
abbrev pub invariant-loop-column : goal.invariant-loop-column
invariant-loop-column l = AreTracksTo l.script l.report.columns l.column-index l.tracks.items
