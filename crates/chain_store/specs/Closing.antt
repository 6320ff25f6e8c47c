-- What a region ends with.
use Rattle.std.specs.Prelude.{◌≡◌, ℕ, ◌<◌, true, List, [], ◌∷◌, length, map, Some, slice_get}
use Rattle.std.specs.List.{Contains}
use mathlib.Core.List.{IsPrefix}
use Rattle.log_node.specs.declared.ids.Id.{Id}
use Rattle.log_node.specs.declared.ids.Row.{Row}
use Rattle.log_node.specs.declared.ids.Counts.{Counts}
use Rattle.log_node.specs.declared.node.Node.{Node}
use Rattle.log_node.specs.Sets.{has}
use Rattle.log_node.specs.declared.marks.Mark.{Mark}
use Rattle.log_node.specs.declared.marks.Outcome.{Outcome}
use Rattle.col_core.specs.declared.Event.TheVariants.{Propose}
use Rattle.col_core.specs.Computed.{dated}
use Rattle.col_core.specs.Legal.{IsColumnHistory}
use Rattle.col_core.specs.Rows.{BegunRow, AreLawfulRows}
use Rattle.column.specs.Columns.{ColumnState}
use Rattle.stamp_board.specs.declared.rows.ClosedRow.{ClosedRow}
use Rattle.stamp_board.specs.Rows.{IsRow}
use Rattle.stamp_board.specs.Views.{KnowsBegun, KnowsMark, KnowsOutcome}
use Rattle.stamp_board.specs.Closing.{all_begun}
use Rattle.turn_cell.specs.Histories.{made_by}
use Rattle.chain_store.specs.declared.told.Told.{Told}
use Rattle.chain_store.specs.declared.hold.Hold.{Hold}
use Rattle.chain_store.specs.declared.region.Region.{Region}
use Rattle.chain_store.specs.declared.closed.ClosedRegion.{ClosedRegion}
use Rattle.chain_store.specs.Histories.{entries_in, maker}
use Rattle.chain_store.specs.Columns.{IsOfHistory}
use Rattle.ring_ends.specs.declared.rings.Rings.{Rings}
use Rattle.ring_ends.specs.Rings.{names_of, IsForRegions}
use Rattle.chain_store.specs.Rings.{RingsFit}
use Rattle.chain_store.specs.Regions.{rings_at, tag_at}
use Rattle.chain_store.specs.Holds.{IsHold, seen_in, made_in, view_of}

-- they are the holds of all clients of the region, by number
abbrev pub AreHoldsOf : Region → List Hold → Type 0
AreHoldsOf r hs =
    (length hs ≡ r.board.size.clients)
    × ((n : ℕ) (h : Hold) → slice_get hs n ≡ Some h → IsHold r h × (h.passes.number ≡ n))

-- the begun row without its node
abbrev pub closed_of : BegunRow → ClosedRow
closed_of b = record { row = b.row; marks = b.marks; last = b.last }

-- The column stands for this history of its colour's copy in the region, which is lawful.
pub record ClosesColumn (r : Region) (colour : ℕ) (column : ColumnState) (log : List Told) : Type 0 where
  pub region : column.region ≡ r.number
  pub colour_is : column.colour ≡ colour
  pub regions : column.regions ≡ r.regions
  pub stands : IsOfHistory column r.board.size.clients log
  pub lawful : IsColumnHistory r.number r.regions (dated r.number (entries_in log))

-- the rings are those that the colour's column began with, and fit its history
abbrev pub ClosesRings : Region → ℕ → Rings → List Told → Type 0
ClosesRings r colour rings log =
    (names_of rings ≡ rings_at r colour) × IsForRegions r.regions rings × RingsFit (tag_at r colour) rings log

-- the history begins with what the hold has seen, and has of its client just what the hold made
pub record ClosesFor (h : Hold) (colour : ℕ) (log : List Told) : Type 0 where
  pub seen : IsPrefix (seen_in h colour) log
  pub made : made_by maker h.passes.number log ≡ made_in h colour

-- the begun row is as the hold knows it
pub record AgreesWith (h : Hold) (b : BegunRow) : Type 0 where
  pub node : (x : Node) → KnowsBegun (view_of h) b.row x → b.node ≡ x
  pub marks : (c : ℕ) (m : Mark) → has b.node.colours c ≡ true → KnowsMark (view_of h) b.row c m
      → Contains b.marks (record { colour = c; mark = m })
  pub last : (o : Outcome) → KnowsOutcome (view_of h) b.row o → b.last ≡ o

-- A region that has ended, of which the clients had these holds: its columns stand for lawful histories, beside which the
-- begun rows are lawful. Each history begins with what a hold has seen, and has of its client just what it made; the
-- rows are those that the clients began, each as every hold knows it. The columns' rings are at hand.
pub record Closed (r : Region) (hs : List Hold) (closed : ClosedRegion) : Type 0 where
  pub logs : ℕ → List Told
  pub begun : List BegunRow
  pub count : length closed.columns ≡ r.board.size.colours
  pub ends : length closed.ends.items ≡ r.board.size.colours
  pub columns : (colour : ℕ) (column : ColumnState) → slice_get closed.columns colour ≡ Some column
      → ClosesColumn r colour column (logs colour)
  pub rings : (colour : ℕ) (rings : Rings) → slice_get closed.ends.items colour ≡ Some rings
      → ClosesRings r colour rings (logs colour)
  pub rows : AreLawfulRows r.number r.board.size.colours (λ (c : ℕ). entries_in (logs c)) begun
  pub closing : closed.rows ≡ map closed_of begun
  pub in_order : map (λ (b : BegunRow). b.row) begun ≡ all_begun (map (λ (h : Hold). h.seat) hs)
  pub holds : (n : ℕ) (h : Hold) → slice_get hs n ≡ Some h → (colour : ℕ) → colour < r.board.size.colours
      → ClosesFor h colour (logs colour)
  pub agree : (n : ℕ) (h : Hold) → slice_get hs n ≡ Some h → (i : ℕ) (b : BegunRow) → slice_get begun i ≡ Some b
      → AgreesWith h b
  -- a row that a hold knows as begun is among them
  pub known : (n : ℕ) (h : Hold) → slice_get hs n ≡ Some h → (row : Row) (x : Node) → IsRow r.board.size row
      → KnowsBegun (view_of h) row x
      → (i : ℕ) × (b : BegunRow) × (slice_get begun i ≡ Some b) × (b.row ≡ row) × (b.node ≡ x)
  -- each entry was made by its maker's hold
  pub makers : (colour n : ℕ) (t : Told) → colour < r.board.size.colours → slice_get (logs colour) n ≡ Some t
      → (h : Hold) × (slice_get hs t.entry.by ≡ Some h) × Contains (made_in h colour) t
  -- each proposal brought in its row's node
  pub named : (colour n : ℕ) (t : Told) (id : Id) (floor : ℕ) (wants : Counts) → colour < r.board.size.colours
      → slice_get (logs colour) n ≡ Some t → t.entry.event ≡ Propose id floor wants
      → (i : ℕ) × (b : BegunRow) × (slice_get begun i ≡ Some b) × (t.nodes ≡ b.node ∷ [])
