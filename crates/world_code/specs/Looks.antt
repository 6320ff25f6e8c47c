-- What a client's look shows, and the row that stands in the way of a key.
use Rattle.std.specs.Prelude.{◌≡◌, ◌<◌, ◌-◌, true, ℕ, List, [], ◌∷◌, Some, map, take, drop, length}
use Rattle.std.specs.Prelude.{slice_get}
use Rattle.std.specs.Prelude.{slice_index_or}
use Rattle.log_node.specs.declared.ids.Key.{Key}
use Rattle.log_node.specs.declared.ids.Row.{Row}
use Rattle.log_node.specs.Seen.{PlacedNode}
use Rattle.log_node.specs.Vectors.{at}
use Rattle.log_node.specs.Standings.{Standing}
pub use Rattle.col_core.specs.Ids.{open_below}
use Rattle.col_core.specs.declared.view.View.{View}
use Rattle.column.specs.Columns.{greater}
use Rattle.world_laws.specs.Worlds.{World, home_of, home_history, row_of, is_begun, chains_after, base_after, played_cut}

-- Nodes of the chain of a region, as a client's column has it, from a number on up to another: their heads are the
-- chain's, and each node is the one that its client appended.
pub record AreShown (w : World) (client colour region from to : ℕ) (items : List PlacedNode) : Type 0 where
  pub heads : map (λ (i : PlacedNode). i.head) items
      ≡ take (to - from) (drop from (chains_after (home_of w client) (home_history w client colour) region))
  pub nodes : (n : ℕ) (i : PlacedNode) → slice_get items n ≡ Some i
      → slice_get (w.nodes i.head.key.id.client) i.head.key.id.count ≡ Some i.node

-- what a client sees who looks at a colour's column of its region, from what it has played of it
pub record IsLook (w : World) (client colour : ℕ) (view : View) : Type 0 where
  pub region : view.region ≡ home_of w client
  pub of_colour : view.colour ≡ colour
  pub events : view.events ≡ length (home_history w client colour)
  pub cut : view.cut ≡ played_cut w client colour
  pub base : view.base ≡ base_after w.shape.regions (home_of w client) (home_history w client colour)
  pub start : view.from ≡ greater ((w.clients client).played colour) view.base
  pub chains : length view.items ≡ 4
  pub items : (other : ℕ) → other < 4
      → AreShown w client colour other (at view.from other) (at view.cut other) (slice_index_or view.items other [])

-- The row is that of the least open entry of a column below a key: it is begun, and its node is the one that was
-- appended under the entry's id.
pub record IsFirstBelow (w : World) (region colour : ℕ) (key : Key) (row : Row) : Type 0 where
  pub first : Standing
  pub rest : List Standing
  pub is_first : open_below key (w.histories region colour) ≡ first ∷ rest
  pub node : slice_get (w.nodes first.key.id.client) first.key.id.count ≡ Some (row_of w row).node
  pub named : (row_of w row).node.row ≡ Some row
  pub home : home_of w row.client ≡ region
  pub begun : is_begun w row ≡ true
