-- What a store ends with. All is said of lists: its regions, each client's holds by region, and what each region ended with.
use Rattle.std.specs.Prelude.{◌≡◌, ◌⊎◌, true, ℕ, ◌<◌, List, length, map, Some, slice_get}
use Rattle.std.specs.List.Sorted.{IsNonDecreasing}
use Rattle.log_node.specs.declared.ids.Id.{Id}
use Rattle.log_node.specs.declared.node.Node.{Node}
use Rattle.col_core.specs.declared.Event.{Event}
use Rattle.col_core.specs.declared.Entry.{Entry}
use Rattle.col_core.specs.History.{enters}
use Rattle.col_core.specs.Computed.{dated}
use Rattle.col_core.specs.Rows.{BegunRow, AreLawfulRows}
use Rattle.col_core.specs.Copies.{AreTrueCopies}
use Rattle.col_core.specs.Log.{Log}
use Rattle.column.specs.Columns.{ColumnState, single_event, propose_event}
use Rattle.stamp_board.specs.Closing.{all_begun}
use Rattle.chain_store.specs.declared.hold.Hold.{Hold}
use Rattle.chain_store.specs.declared.region.Region.{Region}
use Rattle.chain_store.specs.declared.closed.ClosedRegion.{ClosedRegion}
use Rattle.chain_store.specs.Closing.{AreHoldsOf, Closed, closed_of}
use Rattle.client_law.specs.Knowing.{MoreIsSeen, AreLawful}
use Rattle.client_law.specs.Making.{made_of}
use Rattle.log_client.specs.Fits.{seen_by, IsListed, FitsHolds}
use Rattle.log_client.specs.Ending.{HasOwnNodes}

-- the holds of a region that the clients have, by client
abbrev pub AreHoldsAt : List (List Hold) → ℕ → List Hold → Type 0
AreHoldsAt clients region ks =
    (length ks ≡ length clients)
    × ((u : ℕ) (hs : List Hold) (k : Hold) → slice_get clients u ≡ Some hs → slice_get ks u ≡ Some k
    → slice_get hs region ≡ Some k)

-- a region that has ended, of which the clients had these holds
pub record HasEnded (clients : List (List Hold)) (n : ℕ) (r : Region) (e : ClosedRegion) : Type 0 where
  pub ks : List Hold
  pub are_at : AreHoldsAt clients n ks
  pub are_of : AreHoldsOf r ks
  pub closed : Closed r ks e

-- all regions have ended
abbrev pub HaveEnded : List Region → List (List Hold) → List ClosedRegion → Type 0
HaveEnded rs clients ends =
    (length ends ≡ length rs)
    × ((n : ℕ) (r : Region) (e : ClosedRegion) → slice_get rs n ≡ Some r → slice_get ends n ≡ Some e
    → HasEnded clients n r e)

-- a column in the end stands for the log's history of its region and colour
pub record EndsColumn (log : Log) (regions region colour : ℕ) (column : ColumnState) : Type 0 where
  pub of_region : column.region ≡ region
  pub of_colour : column.colour ≡ colour
  pub of_regions : column.regions ≡ regions
  pub journal : column.journal ≡ log.histories region colour

-- A region in the end, of whose clients these were the holds: its columns stand for the log's histories, and its rows are
-- the log's, which are lawful beside them: those that the clients began, by client and number.
pub record EndsRegion (log : Log) (regions colours region : ℕ) (ks : List Hold) (e : ClosedRegion) : Type 0 where
  pub count : length e.columns ≡ colours
  pub columns : (colour : ℕ) (column : ColumnState) → slice_get e.columns colour ≡ Some column
      → EndsColumn log regions region colour column
  pub rows : e.rows ≡ map closed_of (log.rows region)
  pub lawful_rows : AreLawfulRows region colours (log.histories region) (log.rows region)
  pub in_order : map (λ (b : BegunRow). b.row) (log.rows region) ≡ all_begun (map (λ (h : Hold). h.seat) ks)
  pub by_client : IsNonDecreasing (map (λ (b : BegunRow). b.row.client) (log.rows region))
  pub of_clients : (n : ℕ) (b : BegunRow) → slice_get (log.rows region) n ≡ Some b → b.row.client < length ks
  pub listed : (n : ℕ) (b : BegunRow) → slice_get (log.rows region) n ≡ Some b → IsListed log.nodes b.node

-- A client in the end, which had these holds: what it has seen begins the log's histories, which have of it just what it
-- made; the log's nodes and rows fit what it knows; and the log has the nodes that it appended.
pub record EndsClient (log : Log) (number : ℕ) (hs : List Hold) : Type 0 where
  pub more : MoreIsSeen (seen_by hs) log.histories
  pub made : (region colour : ℕ)
      → made_of number (log.histories region colour) ≡ made_of number (seen_by hs region colour)
  pub fits : FitsHolds hs (record { nodes = log.nodes; rows = log.rows })
  pub nodes : HasOwnNodes number hs (log.nodes number)

-- an event by which the node enters a column of the colour
abbrev pub EntersBy : ℕ → Node → Event → Type 0
EntersBy colour x event = (event ≡ single_event colour x) ⊎ (event ≡ propose_event colour x)

-- The store ended with a log of so many regions and colours. Its histories are lawful, made by its clients, with true
-- copies, and each id that enters one is that of the node which its client appended.
pub record EndsStore (regions colours : ℕ) (clients : List (List Hold)) (ends : List ClosedRegion) (log : Log) : Type 0 where
  pub many : length ends ≡ regions
  pub lawful : AreLawful regions log.histories
  pub makers : (region colour n : ℕ) (e : Entry) → slice_get (log.histories region colour) n ≡ Some e
      → e.by < length clients
  pub ends_with : (n : ℕ) (e : ClosedRegion) → slice_get ends n ≡ Some e
      → (ks : List Hold) × AreHoldsAt clients n ks × EndsRegion log regions colours n ks e
  pub copies : (colour : ℕ) → colour < colours
      → AreTrueCopies regions (λ (region : ℕ). dated region (log.histories region colour))
  pub each_client : (u : ℕ) (hs : List Hold) → slice_get clients u ≡ Some hs → EndsClient log u hs
  pub entered : (region colour n : ℕ) (e : Entry) (id : Id) → slice_get (log.histories region colour) n ≡ Some e
      → enters id e.event ≡ true → (x : Node) × (x.id ≡ id) × IsListed log.nodes x × EntersBy colour x e.event
