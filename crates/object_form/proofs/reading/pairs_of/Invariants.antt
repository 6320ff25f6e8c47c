use Rattle.std.proofs.Common.{◌≡◌, map, take}
use Rattle.object_form.specs.Readings.{pair_of, pieces_in}
use Rattle.object_form.proofs.reading.pairs_of.Given as goal

abbrev pub invariant-loop-piece : goal.invariant-loop-piece
invariant-loop-piece l = l.pairs ≡ map pair_of (pieces_in (take l.piece-index l.pieces))
