use Rattle.std.proofs.Common.{◌≡◌, map, take}
use Rattle.object_form.specs.Readings.{version_of, pieces_in}
use Rattle.object_form.proofs.reading.versions_of.Given as goal

abbrev pub invariant-loop-piece : goal.invariant-loop-piece
invariant-loop-piece l = l.versions ≡ map version_of (pieces_in (take l.piece-index l.pieces))
