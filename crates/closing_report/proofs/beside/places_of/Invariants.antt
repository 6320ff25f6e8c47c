use Rattle.std.proofs.Common.{◌≡◌, map}
use Rattle.closing_report.specs.Places.{open_place}
use Rattle.closing_report.proofs.beside.places_of.Given as goal

-- the columns so far
abbrev pub invariant-loop-column : goal.invariant-loop-column
invariant-loop-column l = l.places.items ≡ map open_place l.yielded
