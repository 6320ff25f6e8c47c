use Rattle.std.proofs.Common.{◌≡◌, ℕ, length}
use Rattle.world_laws.specs.Worlds.{World}
use Rattle.script_in_order.proofs.FoldsKept.{AreFirstParts}
use Rattle.script_in_order.proofs.tx_folds.open_parts.Given as goal

-- one for each place so far
abbrev pub invariant-loop-place : goal.invariant-loop-place
invariant-loop-place l = record {
  many : length l.parts.items ≡ l.place;
  each : (w : World) (home : ℕ) → AreFirstParts w home l.colours l.parts.items;
}
