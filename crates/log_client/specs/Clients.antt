-- A client at rest beside its store, and what it keeps.
use Rattle.std.specs.Prelude.{◌≡◌, ◌≢◌, ◌⊎◌, ℕ, true, ◌+◌, ◌<◌, ◌≤◌, List, [], ◌++◌, length, map, Option, Some, None, slice_get}
use Rattle.std.specs.List.{AllZip}
use mathlib.Core.List.{IsPrefix}
use Rattle.log_node.specs.declared.ids.Counts.{Counts}
use Rattle.log_node.specs.declared.limits.TheConstants.{MAX_STAMP}
use Rattle.log_node.specs.declared.node.Node.{Node}
use Rattle.log_node.specs.Seen.{PlacedNode}
use Rattle.log_node.specs.Sets.{has}
use Rattle.log_node.specs.Vectors.{at, zeros, IsWithin}
use Rattle.log_node.specs.Reach.{Reachable}
use Rattle.log_node.specs.Standings.{open_entry}
use Rattle.log_node.specs.declared.marks.Why.{Why}
use Rattle.log_node.specs.declared.marks.Mark.TheVariants.{Fenced}
use Rattle.log_node.specs.declared.marks.Outcome.{Outcome}
use Rattle.log_node.specs.declared.marks.Outcome.TheVariants.{Open}
use Rattle.col_core.specs.History.{entries, has_entered}
use Rattle.col_core.specs.Cuts.{chain}
use Rattle.col_core.specs.Computed.{dated}
use Rattle.col_core.specs.PlayOrder.{Place, Stands, IsPlayOrder}
use Rattle.col_core.specs.Keeping.{Kept}
use Rattle.script_text.specs.declared.script.Object.{Object}
use Rattle.stamp_board.specs.Views.{KnowsBegun, KnowsMark, KnowsOutcome}
use Rattle.chain_store.specs.declared.told.Told.{Told}
use Rattle.chain_store.specs.declared.hold.Hold.{Hold}
use Rattle.chain_store.specs.Histories.{entries_in, Names}
use Rattle.chain_store.specs.Owning.{row_of}
use Rattle.chain_store.specs.Holds.{seen_in, entries_seen, view_of}
use Rattle.lawful_run.specs.Callers.{Caller}
use Rattle.client_law.specs.Knowing.{Seen}
use Rattle.client_law.specs.Kept.{IsKeptBy}
use Rattle.log_client.specs.declared.store.Store.{Store}
use Rattle.log_client.specs.declared.client.Client.{Client}
use Rattle.log_client.specs.declared.track.Track.{Track}
use Rattle.log_client.specs.Fits.{seen_by}
use Rattle.log_client.specs.Ending.{AreHoldsIn, PullsTruly, HasOwnNodes, IsHelpBy, HelpsWhole}

-- its holds, by region
abbrev pub holds_of : Client → List Hold
holds_of c = c.holds.items

-- the histories that it has seen, by region and colour
abbrev pub seen_of : Client → Seen
seen_of c = seen_by (holds_of c)

-- the nodes of its begun rows, in order
abbrev pub nodes_of_rows : Client → List Node
nodes_of_rows c = map (λ shared. shared.value) c.rows.items

-- what it has played of its colours, by colour
abbrev pub tracks_of : Client → List Track
tracks_of c = c.tracks.items

-- how many nodes it has played of a colour, of each region's chain: those of the last snapshot
abbrev pub counts_in : Option Track → Counts
counts_in None = zeros
counts_in (Some track) = track.snapshot.counts

abbrev pub starts_of : Client → ℕ → Counts
starts_of c colour = counts_in (slice_get (tracks_of c) colour)

-- the nodes of a colour that it has played, in the order in which it played them
abbrev pub nodes_of_track : Option Track → List PlacedNode
nodes_of_track None = []
nodes_of_track (Some track) = track.nodes

abbrev pub played_of : Client → ℕ → List PlacedNode
played_of c colour = nodes_of_track (slice_get (tracks_of c) colour)

-- of these the own line of its region, by position
abbrev pub line_in : Option Track → List PlacedNode
line_in None = []
line_in (Some track) = track.line

abbrev pub own_line : Client → ℕ → List PlacedNode
own_line c colour = line_in (slice_get (tracks_of c) colour)

-- the client as one who commands, with any objects
abbrev pub caller_of : Store → Client → List Object → Caller
caller_of s c objects = record {
  client = c.number;
  own = c.region;
  regions = length s.regions;
  rows = s.size.rows;
  objects = objects;
}

-- WHAT WAS PLAYED

-- They are, in the order of play, the nodes of a column with this history from the first counts to the second, which can be
-- reached, each with its needs, as a node that the history names, and of the region in whose chain it stands.
pub record PlaysNodes (own : ℕ) (log : List Told) (from to : Counts) (nodes : List PlacedNode) : Type 0 where
  pub order : List Place
  pub in_order : IsPlayOrder (chain own (dated own (entries_in log))) from to order
  pub shown : AllZip (λ place (item : PlacedNode). Stands (chain own (dated own (entries_in log))) place item.head
      × Names log item.head.key.id item.node) order nodes
  pub regions : AllZip (λ place (item : PlacedNode). item.node.region ≡ place.region) order nodes
  pub within : IsWithin from to
  pub reached : Reachable (chain own (dated own (entries_in log))) to

-- The nodes were played up to the counts by plays one after another, each of what had then been seen of the column.
pub data HasPlayed (own : ℕ) (seen : List Told) : Counts → List PlacedNode → Type 0 where
  nothing_played : HasPlayed own seen zeros []
  played_then : (from to : Counts) (nodes more : List PlacedNode) (log : List Told) → HasPlayed own seen from nodes
      → IsPrefix log seen → PlaysNodes own log from to more → HasPlayed own seen to (nodes ++ more)

-- what a client of a region, who has seen this of a colour's column, has played of it
pub record IsTrack (own colour : ℕ) (seen : List Told) (track : Track) : Type 0 where
  pub region : track.snapshot.region ≡ own
  pub of_colour : track.snapshot.colour ≡ colour
  pub reached : Reachable (chain own (dated own (entries_in seen))) track.snapshot.counts
  pub played : HasPlayed own seen track.snapshot.counts track.nodes
  -- the own line up to the snapshot, each node as the history names it
  pub line : IsPrefix (map (λ (item : PlacedNode). item.head) track.line) (chain own (dated own (entries_in seen)) own)
  pub line_long : length track.line ≡ at track.snapshot.counts own
  pub named : (n : ℕ) (item : PlacedNode) → slice_get track.line n ≡ Some item
      → Names seen item.head.key.id item.node

-- A CLIENT AT REST

-- The rows that a client has begun by its hold: their nodes, in order.
pub record AreBegunRows (number : ℕ) (home : Hold) (rows : List Node) : Type 0 where
  pub many : length rows ≡ home.seat.used
  pub begun : (j : ℕ) (x : Node) → slice_get rows j ≡ Some x → KnowsBegun (view_of home) (row_of number j) x

-- What the client has by its hold of its region: its next id is that which it counts, and so its count stays below 2 ^ 63;
-- its rows are those that it has begun; and what it has played was played of what it has seen.
pub record IsHome (c : Client) (home : Hold) : Type 0 where
  pub next : home.next ≤ c.count
  pub counted : c.count ≤ c.floor + home.seat.used
  pub rows : AreBegunRows c.number home (nodes_of_rows c)
  pub tracks : (colour : ℕ) (track : Track) → slice_get (tracks_of c) colour ≡ Some track
      → IsTrack c.region colour (seen_in home colour) track

-- The client rests beside the store: it has a hold of each region, all its own, and begins rows in its region alone.
pub record IsClient (s : Store) (c : Client) : Type 0 where
  pub holds : AreHoldsIn s.regions (holds_of c)
  pub numbers : (n : ℕ) (h : Hold) → slice_get (holds_of c) n ≡ Some h → h.passes.number ≡ c.number
  pub away : (n : ℕ) (h : Hold) → slice_get (holds_of c) n ≡ Some h → n ≢ c.region → h.seat.used ≡ 0
  pub region : c.region < length s.regions
  pub home : (h : Hold) → slice_get (holds_of c) c.region ≡ Some h → IsHome c h
  pub floored : c.floor ≤ MAX_STAMP
  pub colours : length (tracks_of c) ≡ s.size.colours
  -- the nodes that it appended, by count
  pub nodes : List Node
  pub nodes_count : length nodes ≡ c.count
  pub own_nodes : HasOwnNodes c.number (holds_of c) nodes
  pub pulls : PullsTruly s.regions (holds_of c)
  pub helps : HelpsWhole c.number c.region (holds_of c)

-- WHAT IT KEEPS

-- What is kept is of what the client has seen, and its floor, ids, rows and starts are the client's.
pub record Keeps (s : Store) (c : Client) (objects : List Object) (kept : Kept) : Type 0 where
  pub by : IsKeptBy (seen_of c) (caller_of s c objects) kept
  pub floor : kept.floor ≡ c.floor
  pub ids : kept.ids ≡ c.count
  pub rows : kept.rows ≡ length (nodes_of_rows c)
  pub starts : (colour : ℕ) → kept.starts colour ≡ starts_of c colour

-- The row's append is closed for good in a colour, as far as the hold has seen: it is fenced there, or its id has entered
-- and is open no more.
abbrev pub IsClosedIn : Hold → ℕ → Node → ℕ → Type 0
IsClosedIn h number x colour =
    ((why : Why) × KnowsMark (view_of h) (row_of h.passes.number number) colour (Fenced why))
    ⊎ ((has_entered x.id (entries_seen h colour) ≡ true) × (open_entry x.id (entries (entries_seen h colour)) ≡ None))

-- The row's append is closed for good: the row has an outcome, and the append is closed in each of its node's colours.
pub record IsRowClosed (h : Hold) (number : ℕ) (x : Node) : Type 0 where
  pub outcome : Outcome
  pub shut : outcome ≢ Open
  pub known : KnowsOutcome (view_of h) (row_of h.passes.number number) outcome
  pub in_colours : (colour : ℕ) → has x.colours colour ≡ true → IsClosedIn h number x colour

-- the appends of its rows are closed
abbrev pub AllClosed : Hold → List Node → Type 0
AllClosed h rows = (j : ℕ) (x : Node) → slice_get rows j ≡ Some x → IsRowClosed h j x

-- Each append that the client began is closed for good; only a stop leaves one that is not.
abbrev pub Finished : Client → Type 0
Finished c = (h : Hold) → slice_get (holds_of c) c.region ≡ Some h → AllClosed h (nodes_of_rows c)

-- The client has completed another's append.
abbrev pub Helps : Client → Type 0
Helps c = (region : ℕ) × (h : Hold) × (t : Told) × IsHelpBy c.number (holds_of c) region h t
