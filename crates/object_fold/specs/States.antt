-- For which nodes the states of the folds stand.
use Rattle.std.specs.Prelude.{◌≡◌, Bool, not, ℕ, ◌==◌, List, Option, Some, if◌then◌else◌}
use Rattle.std.specs.List.{fold}
use Rattle.std.specs.Option.{option_map}
use Rattle.std.specs.Str.{bytes_eq}
use Rattle.log_node.specs.declared.ids.Key.{Key}
use Rattle.log_node.specs.declared.forms.Pair.{Pair}
use Rattle.log_node.specs.declared.forms.Version.{Version}
use Rattle.log_node.specs.declared.forms.Form.{Form}
use Rattle.object_fold.specs.declared.tx_state.Written.{Written}
use Rattle.object_fold.specs.declared.tx_state.TxState.{TxState}
use Rattle.object_fold.specs.declared.queue.ValueQueue.{ValueQueue}
use Rattle.object_fold.specs.Queues.{queue_after}
use Rattle.object_fold.specs.Transactions.{Write, last_write, is_same_writer, writes_after}
use Rattle.object_fold.specs.declared.shard_map.ShardMap.{ShardMap}
use Rattle.object_fold.specs.Nodes.{ObjectNode, shard_of}
use Rattle.object_fold.specs.Tables.{value_at}
use Rattle.object_fold.specs.Maps.{Value, value_with, shard_value}

-- the map of a shard holds what these nodes leave
abbrev pub IsShardMap : ShardMap → List ObjectNode → Type 0
IsShardMap map nodes = (key : List ℕ) → value_at map.values.entries key ≡ shard_value map.colours map.shard nodes key

-- the one map is of the other one's shard
pub record HasShardOf (old new : ShardMap) : Type 0 where
  pub colours : new.colours ≡ old.colours
  pub shard : new.shard ≡ old.shard

-- the key is one of the shard
abbrev pub is_mine : ShardMap → List ℕ → Bool
is_mine map key = shard_of map.colours key == map.shard

-- a key's value in the map after a form: only the shard's own keys change
abbrev pub mine_with : ShardMap → List ℕ → Form → Value
mine_with map key form =
    if is_mine map key then value_with key (value_at map.values.entries key) form else value_at map.values.entries key

-- the state holds a key's last write among these
abbrev pub written_at : List Write → List ℕ → Option Written
written_at writes key =
    option_map (λ write. record { value = write.value; writer = write.writer }) (last_write writes key)

-- the entries are the last writes of the keys
abbrev pub HoldsWrites : List (List ℕ × Written) → List Write → Type 0
HoldsWrites entries writes = (key : List ℕ) → value_at entries key ≡ written_at writes key

-- the state of the transactional map after these nodes
abbrev pub IsTxState : TxState → List ObjectNode → Type 0
IsTxState state nodes = HoldsWrites state.written.entries (writes_after nodes)

-- a key's value and last committed writer, by the entries
abbrev pub value_in : List (List ℕ × Written) → List ℕ → Value
value_in entries key = option_map (λ w. w.value) (value_at entries key)

-- the key of its last committed writer
abbrev pub writer_in : List (List ℕ × Written) → List ℕ → Option Key
writer_in entries key = option_map (λ w. w.writer) (value_at entries key)

-- the key that was read has another last committed writer, by the entries
abbrev pub differs_in : List (List ℕ × Written) → Version → Bool
differs_in entries read = not (is_same_writer read.writer (writer_in entries read.key))

-- what stands at a key after pairs are written from left to right
abbrev pub written_pairs : Key → List ℕ → Option Written → List Pair → Option Written
written_pairs writer key old pairs =
    fold (λ w pair. if bytes_eq pair.key key then Some (record { value = pair.value; writer = writer }) else w)
    old pairs

-- a key's version, by the entries
abbrev pub version_in : List (List ℕ × Written) → List ℕ → Version
version_in entries key = record { key = key; writer = writer_in entries key }

-- the queue holds what these nodes leave waiting
abbrev pub IsValueQueue : ValueQueue → List ObjectNode → Type 0
IsValueQueue queue nodes = queue.waiting.items ≡ queue_after nodes
