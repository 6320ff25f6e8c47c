use Rattle.std.proofs.Common.{length, ◌≤◌}
use Rattle.walk_law.proofs.RowPlaceLemmas.{AreFrom}
use Rattle.walk_law.proofs.row_places.RowPlaces.of_rows.Given as goal

-- the places of the rows from here on
abbrev pub invariant-loop-at : goal.invariant-loop-at
invariant-loop-at l = (l.at ≤ length l.rows) × AreFrom l.rows l.at l.places
