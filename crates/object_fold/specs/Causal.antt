-- The causal map: which write follows which, and the values of those that no other write of the key follows.
use Rattle.std.specs.Prelude.{◌≡◌, ◌⊎◌, ◌↔◌, Bool, IsTrue, ℕ, ◌<◌, List, filter, map, Some, None, is_some, unwrap_or, [], if◌then◌else◌}
use Rattle.std.specs.List.{Contains}
use Rattle.std.specs.List.Sorted.{IsPermutation, IsSorted}
use Rattle.std.specs.Ordering.{nat_cmp}
use Rattle.std.specs.Cmp.Lexicographic.{slice_cmp}
use Rattle.std.specs.Str.{bytes_eq}
use Rattle.log_node.specs.declared.ids.Counts.{Counts}
use Rattle.log_node.specs.declared.forms.Form.{Form}
use Rattle.log_node.specs.declared.forms.Form.TheVariants as forms
use Rattle.log_node.specs.Vectors.{at}
use Rattle.object_form.specs.Readings.{form_of}
use Rattle.object_fold.specs.Maps.{Value}

-- a played node of one colour: its region, its position in that region's chain, what it needs, and its text
pub record ChainNode : Type 0 where
  pub region : ℕ
  pub position : ℕ
  pub needs : Counts
  pub text : List ℕ

-- the other one stands before it in its chain, or its needs count the other one
abbrev pub FollowsAtOnce : ChainNode → ChainNode → Type 0
FollowsAtOnce node other =
    ((other.region ≡ node.region) × (other.position < node.position)) ⊎ (other.position < at node.needs other.region)

-- among played nodes the first follows the second: at once, or through others of them
pub data FollowsCausally (played : List ChainNode) : ChainNode → ChainNode → Type 0 where
  at_once : {node other : ChainNode} → FollowsAtOnce node other → FollowsCausally played node other
  through : {node between other : ChainNode} → Contains played between
      → FollowsAtOnce node between → FollowsCausally played between other → FollowsCausally played node other

-- the value that a form writes under a key for a causal map, if it does
abbrev pub causal_value : List ℕ → Form → Value
causal_value key (forms.Causal other value) = if bytes_eq other key then Some value else None
causal_value key (forms.Put other value) = None
causal_value key (forms.Delete other) = None
causal_value key (forms.PutAll pairs) = None
causal_value key (forms.Transaction reads pairs) = None
causal_value key (forms.Enqueue value) = None
causal_value key forms.Dequeue = None
causal_value key forms.Plain = None

-- the value that a node writes under a key
abbrev pub written_value : List ℕ → ChainNode → Value
written_value key node = causal_value key (form_of node.text)

-- the node writes the key, and no write of it among those played follows the node
pub record IsLatestWrite (played : List ChainNode) (key : List ℕ) (node : ChainNode) : Type 0 where
  pub writes : IsTrue (is_some (written_value key node))
  pub latest : (later : ChainNode) → Contains played later → IsTrue (is_some (written_value key later))
      → FollowsCausally played later node → ⊥

-- The answer: the values of the latest writes of the key among the nodes that were played, each as often as it was
-- written, sorted by their bytes. No order of play stands in it.
pub record IsCausalAnswer (played : List ChainNode) (key : List ℕ) (values : List (List ℕ)) : Type 0 where
  -- a test that the latest writes pass, and no others
  pub is_latest : ChainNode → Bool
  pub exactly : (node : ChainNode) → Contains played node → IsTrue (is_latest node) ↔ IsLatestWrite played key node
  pub each_value : IsPermutation values (map (λ node. unwrap_or (written_value key node) []) (filter is_latest played))
  pub sorted : IsSorted (slice_cmp nat_cmp) values
