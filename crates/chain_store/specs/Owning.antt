-- The rows that a client has begun, and what its entries say of them.
use Rattle.std.specs.Prelude.{◌≡◌, ◌≢◌, ℕ, ◌^◌, ◌<◌, ◌≤◌, List, Some, slice_get}
use Rattle.log_node.specs.declared.limits.TheConstants.{MAX_STAMP}
use Rattle.log_node.specs.declared.ids.Id.{Id}
use Rattle.log_node.specs.declared.ids.Row.{Row}
use Rattle.log_node.specs.declared.node.Node.{Node}
use Rattle.col_core.specs.declared.Event.{Event}
use Rattle.col_core.specs.declared.Event.TheVariants.{Single, Propose, Settle, Raise, Give, Carry, Trim}
use Rattle.stamp_board.specs.declared.view.Size.{Size}
use Rattle.stamp_board.specs.declared.view.View.{View}
use Rattle.stamp_board.specs.Rows.{IsRow, AreColours}
use Rattle.stamp_board.specs.Views.{KnowsBegun}
use Rattle.chain_store.specs.declared.told.Told.{Told}

-- the client's row with this number
abbrev pub row_of : ℕ → ℕ → Row
row_of client number = record { client = client; number = number }

-- a node for which a region's board may have begun the row: it names the row, is of the row's client and the region, has
-- two colours or more of the board's, and its numbers are within their limits
pub record IsRowNode (size : Size) (region : ℕ) (row : Row) (x : Node) : Type 0 where
  pub on_board : IsRow size row
  pub named : x.row ≡ Some row
  pub client : x.id.client ≡ row.client
  pub in_region : x.region ≡ region
  pub coloured : AreColours size x.colours
  pub counted : x.id.count < 2 ^ 63
  pub floored : x.floor ≤ MAX_STAMP

-- the client began one of its first rows for a node with this id
abbrev pub HasRowOf : (ℕ → Node) → ℕ → Id → Type 0
HasRowOf nodes used id = (j : ℕ) × (j < used) × ((nodes j).id ≡ id)

-- An entry that a client made, who began its first rows for these nodes and gave out the counts below `next`: a single has
-- a count of its own; what is proposed or settled of the client's ids is a node of one of its rows.
abbrev pub IsAccountedFor : ℕ → ℕ → ℕ → (ℕ → Node) → Event → Type 0
IsAccountedFor client used next nodes (Single id floor wants) =
    (id.count < next) × ((j : ℕ) → j < used → (nodes j).id.count ≢ id.count)
IsAccountedFor client used next nodes (Propose id floor wants) = id.client ≡ client → HasRowOf nodes used id
IsAccountedFor client used next nodes (Settle id outcome) = id.client ≡ client → HasRowOf nodes used id
IsAccountedFor client used next nodes (Raise to) = Unit {0}
IsAccountedFor client used next nodes (Give region from) = Unit {0}
IsAccountedFor client used next nodes (Carry region start heads) = Unit {0}
IsAccountedFor client used next nodes (Trim counts) = Unit {0}

-- The client's rows below `used` are begun for nodes of its own, with rising counts below `next`; what it made, in each
-- column, is accounted for by them.
pub record Owns (size : Size) (region : ℕ) (v : View) (client used next : ℕ) (made : ℕ → List Told) : Type 0 where
  pub nodes : ℕ → Node
  pub known : (j : ℕ) → j < used → KnowsBegun v (row_of client j) (nodes j)
  pub fit : (j : ℕ) → j < used → IsRowNode size region (row_of client j) (nodes j)
  pub below : (j : ℕ) → j < used → (nodes j).id.count < next
  pub rising : (i j : ℕ) → i < j → j < used → (nodes i).id.count < (nodes j).id.count
  pub entries : (colour n : ℕ) (t : Told) → slice_get (made colour) n ≡ Some t
      → IsAccountedFor client used next nodes t.entry.event
