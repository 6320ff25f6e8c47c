use Rattle.std.proofs.Common.{◌≡◌, map, take}
use Rattle.std.specs.Prelude.{vec_capacity}
use Rattle.log_client.specs.StampedReads.{raise_piece}
use Rattle.run_script.proofs.serving.scans.raises_shown.Given as goal

-- the raises so far
abbrev pub invariant-loop-raise : goal.invariant-loop-raise
invariant-loop-raise l = record {
  pieces_are : l.pieces.items ≡ map raise_piece (take l.raise-index l.raises);
  room : vec_capacity l.pieces ≡ vec_capacity l.initial.pieces;
}
