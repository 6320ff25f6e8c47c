-- What contracts see of a column, and what its calls make of it.
use Rattle.std.specs.Prelude.{◌≡◌, ◌≢◌, ◌⊎◌, ℕ, ◌+◌, ◌-◌, ◌<◌, ◌==◌, ◌&&◌, ◌||◌, nat_lt, Bool, true, false, IsTrue, not, min, max, List}
use Rattle.std.specs.Prelude.{[], ◌∷◌, ◌++◌, Option, Some, None, length, map, take, drop, slice_get, slice_index_or}
use Rattle.std.specs.Prelude.{slice_set, if◌then◌else◌}
use Rattle.log_node.specs.declared.ids.Id.{Id}
use Rattle.log_node.specs.declared.ids.Key.{Key}
use Rattle.log_node.specs.declared.ids.Counts.{Counts}
use Rattle.log_node.specs.declared.node.Node.{Node}
use Rattle.log_node.specs.Order.{key_below}
use Rattle.log_node.specs.Vectors.{at, least, all_regions}
pub use Rattle.log_node.specs.Vectors.{greater}
use Rattle.log_node.specs.Seen.{PlacedNode, BegunAppend}
use Rattle.log_node.specs.declared.marks.Outcome.{Outcome}
use Rattle.skeen_core.specs.declared.waiting.Waiting.{Waiting}
use Rattle.skeen_core.specs.Queues.{Queued, entry_under, entered_queue, settled_queue, dropped_queue}
use Rattle.col_core.specs.declared.Event.{Event}
use Rattle.col_core.specs.declared.Event.TheVariants as events
use Rattle.col_core.specs.declared.Entry.{Entry}
use Rattle.col_core.specs.History.{last_stamp, next_stamp, entries, open_count, line, IsAtEnd}
use Rattle.log_node.specs.Reach.{Chains}
use Rattle.col_core.specs.Cuts.{Dated, chain, base}
use Rattle.col_core.specs.Computed.{cut, dated}
pub use Rattle.col_core.specs.Ids.{is_open_below}
use Rattle.col_core.specs.Rows.{node_wants}
use Rattle.column.specs.declared.faults.ColumnFault.{ColumnFault}
use Rattle.column.specs.declared.faults.ColumnFault.TheVariants.{StampEnd, NoMemory}
use Rattle.column.specs.declared.faults.OnlyFault.{OnlyFault}
use Rattle.column.specs.declared.faults.OnlyFault.TheVariants as only
use Rattle.column.specs.declared.given.Given.{Given}
use Rattle.column.specs.Entering.{EnteredNode}

-- a column: whose copy of which colour it is, of how many regions, its journal, its entries with their nodes, and for
-- each region the carried nodes that are kept
pub record ColumnState : Type 0 where
  pub region : ℕ
  pub colour : ℕ
  pub regions : ℕ
  pub journal : List Entry
  pub queue : Queued EnteredNode
  pub copies : List (List PlacedNode)

-- nothing in it
abbrev pub new_column : ℕ → ℕ → ℕ → ColumnState
new_column region colour regions = record {
  region = region;
  colour = colour;
  regions = regions;
  journal = [];
  queue = record { clock = 0; entries = []; base = 0; stored = []; spare = 0 };
  copies = [] ∷ [] ∷ [] ∷ [] ∷ [];
}

-- its events, each with the cut before it
abbrev pub history_of : ColumnState → List Dated
history_of column = dated column.region column.journal

-- for each region the heads of its chain, and how many of them there are
abbrev pub chains_of : ColumnState → Chains
chains_of column = chain column.region (history_of column)

abbrev pub held_of : ColumnState → ℕ → ℕ
held_of column region = length (chains_of column region)

-- the carried nodes of a region's chain that are kept
abbrev pub copy_of : ColumnState → ℕ → List PlacedNode
copy_of column region = slice_index_or column.copies region []

-- what may be played of it, and below which counts nodes are trimmed
abbrev pub cut_of : ColumnState → Counts
cut_of column = cut column.region (history_of column)

abbrev pub base_of : ColumnState → Counts
base_of column = base column.region column.regions (history_of column)

-- the events by which a node enters a column of this colour
abbrev pub single_event : ℕ → Node → Event
single_event colour node = events.Single node.id node.floor (node_wants node colour)

abbrev pub propose_event : ℕ → Node → Event
propose_event colour node = events.Propose node.id node.floor (node_wants node colour)

-- the node as the column keeps it: it needs the least of its wants and the cut as it enters
abbrev pub entered_node : ColumnState → Node → EnteredNode
entered_node column node = record { needs = least (node_wants node column.colour) (cut_of column); node = node }

-- the stamp that comes next for a node
abbrev pub stamp_for : ColumnState → Node → ℕ
stamp_for column node = next_stamp column.journal node.floor

-- memory for one entry is there
abbrev pub with_room : ColumnState → ColumnState
with_room column = record column { queue = record column.queue { spare = max 1 column.queue.spare } }

-- the column after a node entered under the next stamp, final or open
abbrev pub after_single : ColumnState → ℕ → Node → ColumnState
after_single column by node = record column {
  journal = column.journal
      ++ record { by = by; event = single_event column.colour node; stamp = stamp_for column node } ∷ [];
  queue = entered_queue (entry_under (stamp_for column node) node.id true (entered_node column node)) column.queue;
}

abbrev pub after_propose : ColumnState → ℕ → Node → ColumnState
after_propose column by node = record column {
  journal = column.journal
      ++ record { by = by; event = propose_event column.colour node; stamp = stamp_for column node } ∷ [];
  queue = entered_queue (entry_under (stamp_for column node) node.id false (entered_node column node)) column.queue;
}

-- the column after an open id was settled
abbrev pub after_settle : ColumnState → ℕ → Id → Outcome → ColumnState
after_settle column by id outcome = record column {
  journal = column.journal ++ record { by = by; event = events.Settle id outcome; stamp = 0 } ∷ [];
  queue = settled_queue id outcome column.queue;
}

-- the column after its clock was raised
abbrev pub after_raise : ColumnState → ℕ → ℕ → ColumnState
after_raise column by to = record column {
  journal = column.journal ++ record { by = by; event = events.Raise to; stamp = 0 } ∷ [];
  queue = record column.queue { clock = max column.queue.clock to };
}

-- the column after one more event that gives no stamp
abbrev pub after_event : ColumnState → ℕ → Event → ColumnState
after_event column by event = record column {
  journal = column.journal ++ record { by = by; event = event; stamp = 0 } ∷ [];
}

-- the column after its line was given to a region from a number on, which counts as the line's length where it is above
abbrev pub after_give : ColumnState → ℕ → ℕ → ℕ → ColumnState
after_give column by region from = after_event column by (events.Give region (min from (length (line column.journal))))

-- what is new of a part of a region's line: the nodes behind those held, and none where one between is missing
abbrev pub new_items : ColumnState → ℕ → Given → List PlacedNode
new_items column region given =
    if nat_lt (held_of column region) given.start then []
    else drop (held_of column region - given.start) given.items

-- the column after new nodes of a region's chain were carried; without any it is as before
abbrev pub with_items : ColumnState → ℕ → ℕ → List PlacedNode → ColumnState
with_items column by region [] = column
with_items column by region (item ∷ items) = record
    (after_event column by (events.Carry region (held_of column region) (map (λ i. i.head) (item ∷ items)))) {
      copies = slice_set column.copies region (copy_of column region ++ item ∷ items);
    }

abbrev pub after_carry : ColumnState → ℕ → ℕ → Given → ColumnState
after_carry column by region given = with_items column by region (new_items column region given)

-- the base after a trim with these counts
abbrev pub base_after : ColumnState → ℕ → Counts → Counts
base_after column by counts = base_of (after_event column by (events.Trim counts))

-- the carried nodes from a base on
abbrev pub kept_copy : ColumnState → Counts → ℕ → List PlacedNode
kept_copy column base region = drop (at base region - at (base_of column) region) (copy_of column region)

-- the column after a trim: the nodes below the base are dropped
abbrev pub after_trim : ColumnState → ℕ → Counts → ColumnState
after_trim column by counts = record (after_event column by (events.Trim counts)) {
  queue = dropped_queue (at (base_after column by counts) column.region) column.queue;
  copies = map (kept_copy column (base_after column by counts)) all_regions;
}

-- Why a node with this floor did not enter: no stamp is left, which is told before want of memory; or memory was
-- refused, which is never so where there was memory for an entry.
abbrev pub HasEnterCause : ColumnState → ℕ → ColumnFault → Type 0
HasEnterCause column floor (StampEnd clock) = (clock ≡ last_stamp) × IsAtEnd column.journal floor
HasEnterCause column floor NoMemory = (column.queue.spare ≡ 0) × (IsAtEnd column.journal floor → ⊥)

-- a node that may stand next alone finds the column moved on: an entry is open, or the line has not as many nodes as the
-- node wants of its own region
abbrev pub moved_from : ColumnState → Node → Bool
moved_from column node =
    nat_lt 0 (open_count (entries column.journal))
    || not (length (line column.journal) == at (node_wants node column.colour) column.region)

-- Why such a node did not enter: the column has moved on, which is told first; else it is as with any other node.
abbrev pub HasOnlyCause : ColumnState → Node → OnlyFault → Type 0
HasOnlyCause column node (only.Moved lined waiting events) = moved_from column node ≡ true
HasOnlyCause column node (only.StampEnd colour clock) =
    (moved_from column node ≡ false) × (colour ≡ column.colour) × HasEnterCause column node.floor (StampEnd clock)
HasOnlyCause column node only.NoMemory = (moved_from column node ≡ false) × HasEnterCause column node.floor NoMemory

-- a stored entry is open, and its key is below this one
abbrev pub is_waiting_below : Key → Waiting EnteredNode → Bool
is_waiting_below key w = not w.settled && key_below w.key key

-- a begun append of a node of several colours; without the node only where memory was refused
pub record IsBegun (begun : BegunAppend) (node : Node) : Type 0 where
  pub id : begun.id ≡ node.id
  pub colours : begun.colours ≡ node.colours
  pub row : node.row ≡ Some begun.row
  pub node_is : (begun.node ≡ None) ⊎ (begun.node ≡ Some node)

-- one who helps holds the node's begun append, where the node has a row
abbrev pub IsBegunOf : Option BegunAppend → Node → Type 0
IsBegunOf None node = node.row ≡ None
IsBegunOf (Some begun) node = IsBegun begun node

-- he holds that of the entry that was found, if one was
abbrev pub IsBegunAt : Option BegunAppend → Option (Waiting EnteredNode) → Type 0
IsBegunAt None None = Unit {0}
IsBegunAt None (Some w) = ⊥
IsBegunAt (Some begun) None = ⊥
IsBegunAt (Some begun) (Some w) = IsBegun begun w.thing.node

-- an open entry has a node with a row
abbrev pub HasRow : Bool → Node → Type 0
HasRow true node = Unit {0}
HasRow false node = node.row ≡ None → ⊥

-- the node under a key, as one reads it
abbrev pub placed : Key → EnteredNode → PlacedNode
placed key entered = record { head = record { key = key; needs = entered.needs }; node = entered.node }

-- the nodes under these keys
abbrev pub items_under : List Key → List EnteredNode → List PlacedNode
items_under [] nodes = []
items_under (key ∷ keys) [] = []
items_under (key ∷ keys) (node ∷ nodes) = placed key node ∷ items_under keys nodes

-- the column stores this node under this key
abbrev pub HasStored : ColumnState → Key → Node → Type 0
HasStored column key node =
    (n : ℕ) × (w : Waiting EnteredNode)
    × (slice_get column.queue.stored n ≡ Some w) × (w.key ≡ key) × (w.thing.node ≡ node)

-- the column keeps this node as it was carried
abbrev pub HasCarried : ColumnState → ℕ → PlacedNode → Type 0
HasCarried column region item = (n : ℕ) × (slice_get (copy_of column region) n ≡ Some item)

-- The nodes of a region's chain from a number on up to another: heads by the history, the own nodes as they entered, and
-- those of another region as they were carried.
pub record AreItems (column : ColumnState) (region from to : ℕ) (items : List PlacedNode) : Type 0 where
  pub heads : map (λ (i : PlacedNode). i.head) items ≡ take (to - from) (drop from (chains_of column region))
  pub nodes : region ≡ column.region
      → (n : ℕ) (i : PlacedNode) → slice_get items n ≡ Some i → HasStored column i.head.key i.node
  pub carried : region ≢ column.region
      → (n : ℕ) (i : PlacedNode) → slice_get items n ≡ Some i → HasCarried column region i

-- What is given of the own line from a number on, which counts as the line's length where it is above: the nodes from
-- there on, or from the base on where that is greater.
pub record IsGiven (column : ColumnState) (from : ℕ) (given : Given) : Type 0 where
  pub start : given.start
      ≡ max (min from (length (line column.journal))) (at (base_of column) column.region)
  pub items : AreItems column column.region given.start (length (line column.journal)) given.items

-- every key is above those before it
abbrev pub AreRising : List Key → Type 0
AreRising keys = (i j : ℕ) (k l : Key) → i < j → slice_get keys i ≡ Some k → slice_get keys j ≡ Some l
    → IsTrue (key_below k l)
