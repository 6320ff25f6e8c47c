use Rattle.std.proofs.Common.{◌≡◌, take}
use Rattle.object_form.specs.Readings.{pieces_in}
use Rattle.tree_fold.proofs.path.copied.Given as goal

abbrev pub invariant-loop-piece : goal.invariant-loop-piece
invariant-loop-piece l = l.names ≡ pieces_in (take l.piece-index l.pieces)
