use Rattle.std.proofs.Common.{take, length, ◌≤◌}
use Rattle.walk_law.specs.Subjects.{AreAllPlaces}
use Rattle.walk_law.proofs.column_places.places_of_columns.Given as goal

-- the places of the columns so far
abbrev pub invariant-loop-column : goal.invariant-loop-column
invariant-loop-column l = AreAllPlaces l.clients (take l.column-index l.columns) l.places.items
