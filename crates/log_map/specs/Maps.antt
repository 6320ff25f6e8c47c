-- What a map keeps beside its client, and what its gets answer.
use Rattle.std.specs.Prelude.{◌≡◌, ◌⊎◌, ℕ, List, [], length, Some, slice_get}
use Rattle.object_fold.specs.declared.kept_line.KeptLine.{KeptLine}
use Rattle.object_fold.specs.declared.shard_map.ShardMap.{ShardMap}
use Rattle.object_fold.specs.Maps.{Value}
use Rattle.object_fold.specs.States.{IsShardMap}
use Rattle.col_core.specs.Log.{Log}
use Rattle.col_core.specs.Keeping.{Kept}
use Rattle.lawful_run.specs.Callers.{Caller}
use Rattle.lawful_run.specs.Reads.{Syncs, kept_after_piece}
use Rattle.lawful_run.specs.Objects.{GetsValue}
use Rattle.log_client.specs.declared.store.Store.{Store}
use Rattle.log_client.specs.declared.client.Client.{Client}
use Rattle.log_client.specs.declared.answers.Synced.{Synced}
use Rattle.log_client.specs.Calls.{IsExplained}
use Rattle.log_client.specs.StampedReads.{sync_piece}
use Rattle.log_client.specs.Objects.{HasColoursOf, FoldsLine}
use Rattle.log_map.specs.declared.map.LogMap.{LogMap}

-- The shard of a map with these colours that has this one is kept: what is folded are the first nodes of the own line that
-- the client has played of it.
pub record IsShardOf (c : Client) (colours : List ℕ) (colour : ℕ) (shard : KeptLine ShardMap) : Type 0 where
  pub colours_are : shard.state.colours ≡ colours
  pub shard_is : shard.state.shard ≡ colour
  pub folds : FoldsLine c colour shard.count (IsShardMap shard.state)

-- of each of the first so many of these colours there is a shard of a map with them, of which nothing is folded
pub record AreFresh (colours : List ℕ) (count : ℕ) (shards : List (KeptLine ShardMap)) : Type 0 where
  pub many : length shards ≡ count
  pub each : (n colour : ℕ) (shard : KeptLine ShardMap) → slice_get colours n ≡ Some colour → slice_get shards n ≡ Some shard
      → (shard.state.colours ≡ colours) × (shard.state.shard ≡ colour) × (shard.count ≡ 0) × IsShardMap shard.state []

-- there is a shard for each colour
abbrev pub AreOpen : LogMap → Type 0
AreOpen m = length m.shards.items ≡ length m.colours

-- The map is kept beside the client, whose colours its own are: with no shard yet, or one for each colour.
pub record IsMapOf (c : Client) (m : LogMap) : Type 0 where
  pub colours : HasColoursOf c m.colours
  pub many : (m.shards.items ≡ []) ⊎ AreOpen m
  pub shards : (n colour : ℕ) (shard : KeptLine ShardMap) → slice_get m.colours n ≡ Some colour
      → slice_get m.shards.items n ≡ Some shard → IsShardOf c m.colours colour shard

-- the one map is the other one, and what is folded may differ
abbrev pub IsSameMap : LogMap → LogMap → Type 0
IsSameMap m n = (n.home ≡ m.home) × (n.colours ≡ m.colours)

-- The key's colour was synced, and the value is the key's after the own nodes of the snapshot.
abbrev pub GetsAs : List ℕ → List ℕ → Synced → Value → Log → Caller → Kept → Kept → Type 0
GetsAs colours key y value log caller kept after =
    Syncs log caller kept y.snapshot.colour y.events y.snapshot.counts
    × GetsValue log caller colours (sync_piece y) key value
    × (after ≡ kept_after_piece log caller kept (sync_piece y))

-- a get of a key, whose shard has this colour, of a map with these colours answered with this
pub record Gets (s : Store) (c d : Client) (colours : List ℕ) (colour : ℕ) (key : List ℕ) (value : Value)
    (y : Synced) : Type 0 where
  pub synced : y.snapshot.colour ≡ colour
  pub explained : IsExplained s c d (GetsAs colours key y value)
