-- What the causal map has of played nodes: for each node how many nodes of each chain it follows, and for each
-- key the writes that no other one follows.
use Rattle.std.specs.Prelude.{◌≡◌, ◌↔◌, ℕ, ◌-◌, ◌<◌, ◌≤◌, ◌==◌, max, List, [], length, Some, unwrap_or, slice_get, slice_index_or, count_by, if◌then◌else◌}
use Rattle.std.specs.List.{Contains}
use Rattle.log_node.specs.declared.ids.Counts.{Counts}
use Rattle.log_node.specs.Vectors.{at, vector, zeros}
use Rattle.object_fold.specs.Causal.{ChainNode, FollowsCausally}

-- the vectors of a chain's nodes
abbrev pub past_chain : List (List Counts) → ℕ → List Counts
past_chain pasts region = slice_index_or pasts region []

-- for each region the greater number
abbrev pub joined : Counts → Counts → Counts
joined v w = vector (λ region. max (at v region) (at w region))

-- how many nodes of each chain a node at this place follows at once
abbrev pub at_once : ℕ → ℕ → Counts → Counts
at_once own position needs =
    vector (λ region. if region == own then max position (at needs region) else at needs region)

-- the vector of the last node of a chain that is counted, zeros where none is
abbrev pub last_past : List (List Counts) → Counts → ℕ → Counts
last_past pasts counted region =
    if at counted region == 0 then zeros
    else unwrap_or (slice_get (past_chain pasts region) (at counted region - 1)) zeros

-- how many nodes of each chain a node follows that follows these at once
abbrev pub past_of : List (List Counts) → Counts → Counts
past_of pasts counted =
    let last = last_past pasts counted in joined (joined (joined (joined counted (last 0)) (last 1)) (last 2)) (last 3)

-- the node's vector stands at its place, and counts exactly the nodes that it follows
pub record IsPast (pasts : List (List Counts)) (played : List ChainNode) (node : ChainNode) : Type 0 where
  pub past : Counts
  pub here : slice_get (past_chain pasts node.region) node.position ≡ Some past
  pub exact : (other : ChainNode) → FollowsCausally played node other ↔ (other.position < at past other.region)
  pub within : (region : ℕ) → at past region ≤ length (past_chain pasts region)

-- the vectors are those of the played nodes
pub record ArePasts (pasts : List (List Counts)) (played : List ChainNode) : Type 0 where
  pub four : length pasts ≡ 4
  pub known : (node : ChainNode) → Contains played node → IsPast pasts played node
  pub stands : (region position : ℕ) → position < length (past_chain pasts region)
      → (node : ChainNode) × Contains played node × (node.region ≡ region) × (node.position ≡ position)
  pub rises : (region i j : ℕ) (v w : Counts) → i ≤ j → slice_get (past_chain pasts region) i ≡ Some v
      → slice_get (past_chain pasts region) j ≡ Some w → (t : ℕ) → at v t ≤ at w t
  pub lengths : (region : ℕ) → length (past_chain pasts region) ≡ count_by (λ node. node.region == region) played

-- the node may be played after these: it is the next of its chain, and its needs count played nodes alone
pub record MayPlayNext (played : List ChainNode) (node : ChainNode) : Type 0 where
  pub region : node.region < 4
  pub position : node.position ≡ count_by (λ other. other.region == node.region) played
  pub needs : (region : ℕ) → at node.needs region ≤ count_by (λ other. other.region == region) played
