use Rattle.std.proofs.Common.{◌≡◌, map, Some}
use Rattle.closing_report.specs.declared.beside.Place.{Place}
use Rattle.closing_report.proofs.beside.reports_of.Given as goal

-- the places so far
abbrev pub invariant-loop-place : goal.invariant-loop-place
invariant-loop-place l = map Some l.reports ≡ map (λ (place : Place). place.shown) l.yielded
