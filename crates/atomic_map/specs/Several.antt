-- What a map of several keys keeps beside its client, and what its reads answer.
use Rattle.std.specs.Prelude.{◌≡◌, ◌⊎◌, ℕ, ◌<◌, ◌≤◌, List, [], length, map, take, Option, Some, None, slice_get}
use Rattle.std.specs.List.{fold}
use Rattle.log_node.specs.declared.ids.Key.{Key}
use Rattle.log_node.specs.declared.limits.TheConstants.{MAX_COLOURS}
use Rattle.object_fold.specs.declared.kept_line.KeptLine.{KeptLine}
use Rattle.object_fold.specs.Nodes.{ObjectNode, object_nodes}
use Rattle.object_fold.specs.Tables.{value_at}
use Rattle.object_fold.specs.Maps.{Value, values_among}
use Rattle.col_core.specs.Log.{Log}
use Rattle.col_core.specs.Keeping.{Kept}
use Rattle.playback.specs.Merging.{AreRising}
use Rattle.lawful_run.specs.Asks.{shards}
use Rattle.lawful_run.specs.Callers.{Caller}
use Rattle.lawful_run.specs.Objects.{AreObjectNodes}
use Rattle.log_client.specs.declared.store.Store.{Store}
use Rattle.log_client.specs.declared.client.Client.{Client}
use Rattle.log_client.specs.declared.answers.StampedRead.{StampedRead}
use Rattle.log_client.specs.declared.object_fault.ObjectFault.{ObjectFault}
use Rattle.log_client.specs.Calls.{IsExplained}
use Rattle.log_client.specs.Clients.{own_line, tracks_of}
use Rattle.log_client.specs.Reading.{keys_of}
use Rattle.log_client.specs.StampedReads.{ReadsAs}
use Rattle.log_client.specs.Objects.{HasColoursOf, FoldsLine, LookRefused}
use Rattle.atomic_map.specs.declared.line_writes.LastWrite.{LastWrite}
use Rattle.atomic_map.specs.declared.line_writes.LineWrites.{LineWrites}
use Rattle.atomic_map.specs.declared.atomic.AtomicMap.{AtomicMap}
use Rattle.atomic_map.specs.Writes.{HoldsShardWrites, items_up_to, last_shard_write, later_write, value_left}

-- WHAT IS KEPT

-- The line of a colour is kept, of a map with these colours: what is folded are the first nodes of the own line that the client
-- has played of it.
pub record IsLineOf (c : Client) (colours : List ℕ) (colour : ℕ) (line : KeptLine LineWrites) : Type 0 where
  pub colours_are : line.state.colours ≡ colours
  pub folds : FoldsLine c colour line.count (HoldsShardWrites line.state)

-- The map is kept beside the client: its colours are the client's, and so are the lines that it has.
pub record IsAtomicMapOf (c : Client) (m : AtomicMap) : Type 0 where
  pub colours : HasColoursOf c m.colours
  pub lines : (colour : ℕ) (line : KeptLine LineWrites) → slice_get m.lines.items colour ≡ Some line
      → IsLineOf c m.colours colour line

-- the one map is the other one, and what is folded may differ
abbrev pub IsSameMap : AtomicMap → AtomicMap → Type 0
IsSameMap m n = (n.home ≡ m.home) × (n.colours ≡ m.colours)

-- the same, and the last key is the same
abbrev pub HasSameLast : AtomicMap → AtomicMap → Type 0
HasSameLast m n = (n.home ≡ m.home) × (n.colours ≡ m.colours) × (n.last ≡ m.last)

-- the one map has the other one's lines, and maybe more, of which nothing is folded
pub record Opens (old new : AtomicMap) : Type 0 where
  pub same : HasSameLast old new
  pub lines : (colour : ℕ) (line : KeptLine LineWrites) → slice_get new.lines.items colour ≡ Some line
      → (slice_get old.lines.items colour ≡ Some line)
      ⊎ ((line.count ≡ 0) × (line.state.colours ≡ old.colours) × (line.state.writes.entries ≡ []))

-- The colour is one of the client, whose own line of it rises, and of that no node is folded that has a greater stamp than this.
pub record CanGoOn (c : Client) (m : AtomicMap) (stamp colour : ℕ) : Type 0 where
  pub within : colour < length (tracks_of c)
  pub few : colour < MAX_COLOURS
  pub rising : AreRising (keys_of (own_line c colour))
  pub low : (line : KeptLine LineWrites) → slice_get m.lines.items colour ≡ Some line
      → line.count ≤ length (items_up_to stamp (own_line c colour))

-- what is folded of the colour are the nodes of the client's own line up to the stamp
pub record IsFolded (c : Client) (m : AtomicMap) (stamp colour : ℕ) : Type 0 where
  pub line : KeptLine LineWrites
  pub there : slice_get m.lines.items colour ≡ Some line
  pub whole : take line.count (own_line c colour) ≡ items_up_to stamp (own_line c colour)

-- WHAT IS READ

-- a key's last write in a line, if there is one
abbrev pub write_in : Option (KeptLine LineWrites) → List ℕ → Option LastWrite
write_in None key = None
write_in (Some line) key = value_at line.state.writes.entries key

-- a key's last write in the lines of these colours
abbrev pub latest_in : List (KeptLine LineWrites) → List ℕ → List ℕ → Option LastWrite
latest_in lines colours key =
    fold (λ write colour. later_write write (write_in (slice_get lines colour) key)) None colours

-- the values of keys by the lines of these colours
abbrev pub values_in : List (KeptLine LineWrites) → List ℕ → List (List ℕ) → List Value
values_in lines colours keys = map (λ key. value_left (latest_in lines colours key)) keys

-- A key's last write in the own lines, up to a stamp, that a client holds of some colours; the map has the first ones.
abbrev pub latest_by_lines : Client → List ℕ → List ℕ → ℕ → List ℕ → Option LastWrite
latest_by_lines c map_colours colours stamp key =
    fold (λ write colour. later_write write
    (last_shard_write map_colours (object_nodes (items_up_to stamp (own_line c colour))) key)) None colours

-- the values of keys by these lines
abbrev pub values_by_lines : Client → List ℕ → List ℕ → ℕ → List (List ℕ) → List Value
values_by_lines c map_colours colours stamp keys =
    map (λ key. value_left (latest_by_lines c map_colours colours stamp key)) keys

-- The read is of the shards of the keys and answers what comes behind the last key, and the values are the keys' after the nodes
-- that it read.
abbrev pub GetsAllAs : List ℕ → Option Key → List (List ℕ) → List Value → StampedRead → Log → Caller → Kept → Kept → Type 0
GetsAllAs colours last asked values read log caller kept after =
    (keys : List Key) × ReadsAs (shards colours asked) last read keys log caller kept after
    × (nodes : List ObjectNode) × AreObjectNodes log keys nodes × (values ≡ values_among colours nodes asked)

-- a read of several keys of a map with these colours, which goes on from the last key, answered with this
abbrev pub GetsAll : Store → Client → Client → List ℕ → Option Key → List (List ℕ) → List Value → StampedRead → Type 0
GetsAll s c d colours last asked values read = IsExplained s c d (GetsAllAs colours last asked values read)

-- why a read of several keys, whose shards have these colours, of a map at this home was refused
abbrev pub GetAllRefused : ℕ → Store → Client → Client → List ℕ → ObjectFault → Type 0
GetAllRefused home s c d colours = LookRefused home s c d colours
