use Rattle.std.proofs.Common.{◌≡◌, map, take}
use Rattle.std.specs.Prelude.{vec_capacity}
use Rattle.log_client.specs.StampedReads.{sync_piece}
use Rattle.run_script.proofs.serving.scans.syncs_shown.Given as goal

-- the syncs so far
abbrev pub invariant-loop-sync : goal.invariant-loop-sync
invariant-loop-sync l = record {
  pieces_are : l.pieces.items ≡ map sync_piece (take l.sync-index l.syncs);
  room : vec_capacity l.pieces ≡ vec_capacity l.initial.pieces;
}
