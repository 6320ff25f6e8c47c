-- For which played nodes the state of the causal map stands.
use Rattle.std.specs.Prelude.{◌≡◌, ◌↔◌, Bool, IsTrue, not, ℕ, nat_lt, List, [], ◌∷◌, ◌++◌, length, filter, map, Option, Some, None, unwrap_or, if◌then◌else◌}
use Rattle.std.specs.List.{Contains}
use Rattle.std.specs.Str.{bytes_eq}
use Rattle.log_node.specs.declared.ids.Counts.{Counts}
use Rattle.log_node.specs.declared.forms.Form.{Form}
use Rattle.log_node.specs.declared.forms.Form.TheVariants as forms
use Rattle.log_node.specs.Vectors.{at, vector}
use Rattle.object_fold.specs.declared.causal_map.LatestWrite.{LatestWrite}
use Rattle.object_fold.specs.declared.causal_map.CausalMap.{CausalMap}
use Rattle.object_fold.specs.Tables.{value_at}
use Rattle.object_fold.specs.Causal.{ChainNode, IsLatestWrite, written_value}
use Rattle.object_fold.specs.Pasts.{ArePasts, past_chain}

-- a latest write of a key: its node's place, and the value
abbrev pub latest_write : List ℕ → ChainNode → LatestWrite
latest_write key node =
    record { region = node.region; position = node.position; value = unwrap_or (written_value key node) [] }

-- the latest writes of a key are those that no other played write of the key follows
pub record HoldsLatest (played : List ChainNode) (key : List ℕ) (latest : List LatestWrite) : Type 0 where
  pub is_latest : ChainNode → Bool
  pub exactly : (node : ChainNode) → Contains played node → IsTrue (is_latest node) ↔ IsLatestWrite played key node
  pub writes : latest ≡ map (latest_write key) (filter is_latest played)

-- the latest writes of a key
abbrev pub latest_at : List (List ℕ × List LatestWrite) → List ℕ → List LatestWrite
latest_at entries key = unwrap_or (value_at entries key) []

-- those of some writes that a node with this vector does not follow
abbrev pub not_followed : Counts → List LatestWrite → List LatestWrite
not_followed past latest = filter (λ write. not (nat_lt write.position (at past write.region))) latest

-- the key that a node with this place, vector and form writes, and its latest writes then
abbrev pub change_by : List (List ℕ × List LatestWrite) → ℕ → ℕ → Counts → Form → Option (List ℕ × List LatestWrite)
change_by entries region position past (forms.Causal key value) =
    let write : LatestWrite = record { region = region; position = position; value = value } in
    Some (key, not_followed past (latest_at entries key) ++ write ∷ [])
change_by entries region position past (forms.Put key value) = None
change_by entries region position past (forms.Delete key) = None
change_by entries region position past (forms.PutAll pairs) = None
change_by entries region position past (forms.Transaction reads pairs) = None
change_by entries region position past (forms.Enqueue value) = None
change_by entries region position past forms.Dequeue = None
change_by entries region position past forms.Plain = None

-- the latest writes of a key after a change
abbrev pub latest_with : List (List ℕ × List LatestWrite) → Option (List ℕ × List LatestWrite) → List ℕ → List LatestWrite
latest_with entries None other = latest_at entries other
latest_with entries (Some change) other = if bytes_eq change.0 other then change.1 else latest_at entries other

-- how many nodes of each region's chain it was fed
abbrev pub counts_of : CausalMap → Counts
counts_of map = vector (λ region. length (past_chain map.pasts region))

-- the causal map holds what these played nodes leave
pub record IsCausalMap (map : CausalMap) (played : List ChainNode) : Type 0 where
  pub pasts : ArePasts map.pasts played
  pub latest : (key : List ℕ) → HoldsLatest played key (latest_at map.latest.entries key)
