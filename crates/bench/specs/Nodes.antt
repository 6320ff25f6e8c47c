-- The nodes that are appended.
use Rattle.std.specs.Prelude.{◌≡◌, ℕ, [], ◌∷◌, None}
use Rattle.log_node.specs.declared.node.Node.{Node}
use Rattle.log_node.specs.Sets.{set_of}

-- a node of this client and count, of the region 0 and the colour 0 alone
pub record IsAppended (client count : ℕ) (x : Node) : Type 0 where
  pub client_is : x.id.client ≡ client
  pub count_is : x.id.count ≡ count
  pub region : x.region ≡ 0
  pub colours : x.colours ≡ set_of (0 ∷ [])
  pub floor : x.floor ≡ 0
  pub row : x.row ≡ None
