-- Which nodes and rows fit what a client's holds know. All is said of lists of holds, by region.
use Rattle.std.specs.Prelude.{◌≡◌, ℕ, List, [], length, Option, Some, None, slice_get}
use Rattle.std.specs.List.{Contains}
use mathlib.Core.List.{IsPrefix}
use Rattle.log_node.specs.declared.ids.Id.{Id}
use Rattle.log_node.specs.declared.ids.Row.{Row}
use Rattle.log_node.specs.declared.node.Node.{Node}
use Rattle.col_core.specs.declared.Entry.{Entry}
use Rattle.col_core.specs.Rows.{BegunRow}
use Rattle.stamp_board.specs.Rows.{IsRow}
use Rattle.stamp_board.specs.Views.{KnowsBegun, Learns}
use Rattle.chain_store.specs.declared.hold.Hold.{Hold}
use Rattle.chain_store.specs.Histories.{Names}
use Rattle.chain_store.specs.Holds.{entries_seen, seen_in, view_of}
use Rattle.chain_store.specs.Closing.{AgreesWith}
use Rattle.client_law.specs.Knowing.{Seen, Rest}

-- the entries of a colour's column that a hold has seen; none without a hold
abbrev pub entries_by : Option Hold → ℕ → List Entry
entries_by None colour = []
entries_by (Some h) colour = entries_seen h colour

-- the histories that the holds have seen, by region and colour
abbrev pub seen_by : List Hold → Seen
seen_by holds region colour = entries_by (slice_get holds region) colour

-- the node stands among the nodes of its client at its count
abbrev pub IsListed : (ℕ → List Node) → Node → Type 0
IsListed nodes x = slice_get (nodes x.id.client) x.id.count ≡ Some x

-- One of the begun rows is this one, for the node, with the marks and the outcome that the hold knows.
abbrev pub HasBegunRow : List BegunRow → Hold → Row → Node → Type 0
HasBegunRow rows h row x = (b : BegunRow) × Contains rows b × (b.row ≡ row) × (b.node ≡ x) × AgreesWith h b

-- The nodes, and the begun rows of a region, fit what a hold of the region knows: each node that a history names which it
-- has seen is listed, each row that it knows as begun is there, and its node is listed.
pub record FitsHold (nodes : ℕ → List Node) (rows : List BegunRow) (h : Hold) : Type 0 where
  pub named : (colour : ℕ) (id : Id) (x : Node) → Names (seen_in h colour) id x → IsListed nodes x
  pub begun : (row : Row) (x : Node) → IsRow (view_of h).size row → KnowsBegun (view_of h) row x → HasBegunRow rows h row x
  pub begun_listed : (row : Row) (x : Node) → IsRow (view_of h).size row → KnowsBegun (view_of h) row x
      → IsListed nodes x

-- They fit what each of the holds knows, which are of the regions 0, 1, 2 and so on.
abbrev pub FitsHolds : List Hold → Rest → Type 0
FitsHolds holds rest =
    (region : ℕ) (h : Hold) → slice_get holds region ≡ Some h → FitsHold rest.nodes (rest.rows region) h

-- The hold is the same client's, has seen more of each column, and knows all that it knew.
pub record HasGoneOn (g h : Hold) : Type 0 where
  pub number : h.passes.number ≡ g.passes.number
  pub more : (colour : ℕ) → IsPrefix (seen_in g colour) (seen_in h colour)
  pub size : (view_of h).size ≡ (view_of g).size
  pub learns : Learns (view_of g) (view_of h)

-- each of the holds has gone on
abbrev pub HaveGoneOn : List Hold → List Hold → Type 0
HaveGoneOn gs hs =
    (length hs ≡ length gs)
    × ((region : ℕ) (g h : Hold) → slice_get gs region ≡ Some g → slice_get hs region ≡ Some h → HasGoneOn g h)
