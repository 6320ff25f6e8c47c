use Rattle.std.proofs.Common.{◌≡◌, map, take}
use Rattle.std.specs.Prelude.{vec_capacity}
use Rattle.log_client.specs.Appends.{piece_of}
use Rattle.run_script.proofs.serving.appends.pieces_of.Given as goal

-- the points so far
abbrev pub invariant-loop-point : goal.invariant-loop-point
invariant-loop-point l = record {
  pieces_are : l.pieces.items ≡ map piece_of (take l.point-index l.points);
  room : vec_capacity l.pieces ≡ vec_capacity l.initial.pieces;
}
