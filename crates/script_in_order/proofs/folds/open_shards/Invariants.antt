use Rattle.std.proofs.Common.{◌≡◌, ℕ, Some, length}
use Rattle.std.specs.Prelude.{slice_get}
use Rattle.world_laws.specs.Worlds.{World}
use Rattle.object_fold.specs.declared.kept_line.KeptLine.{KeptLine}
use Rattle.object_fold.specs.declared.shard_map.ShardMap.{ShardMap}
use Rattle.script_in_order.specs.Folds.{IsShardFold}
use Rattle.script_in_order.proofs.folds.open_shards.Given as goal

-- one for each colour so far
abbrev pub invariant-loop-colour : goal.invariant-loop-colour
invariant-loop-colour l = record {
  many : length l.shards.items ≡ l.colour;
  each : (w : World) (home c : ℕ) (fold : KeptLine ShardMap) → slice_get l.shards.items c ≡ Some fold
      → IsShardFold w home l.colours c fold;
}
