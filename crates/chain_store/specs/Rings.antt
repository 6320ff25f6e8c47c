-- What a column's rings stand for: what was sent is a beginning of its own line, what was received is what it carried, then
-- what waits.
use Rattle.std.specs.Prelude.{◌≡◌, ◌≢◌, ◌⊎◌, ℕ, ◌+◌, ◌<◌, ◌≤◌, length, List, [], ◌∷◌, ◌++◌, map, Some, slice_get}
use Rattle.std.specs.List.{flat_map}
use mathlib.Core.List.{IsPrefix}
use Rattle.log_node.specs.declared.node.Head.{Head}
use Rattle.log_node.specs.declared.node.Node.{Node}
use Rattle.log_node.specs.Seen.{PlacedNode}
use Rattle.log_node.specs.Vectors.{at}
use Rattle.col_core.specs.History.{line}
use Rattle.col_core.specs.Cuts.{carried, chain}
use Rattle.col_core.specs.Legal.{IsColumnHistory}
use Rattle.col_core.specs.Computed.{dated}
use Rattle.column.specs.Columns.{ColumnState, base_of, chains_of, HasStored}
use Rattle.ring_ends.specs.declared.rings.Rings.{Rings}
use Rattle.ring_ends.specs.declared.sends.Sends.{Sends}
use Rattle.ring_ends.specs.declared.receives.Receives.{Receives}
use Rattle.ring_ends.specs.Givens.{OfTheirHeads}
use Rattle.ring_ends.specs.Places.{ring_place}
use Rattle.ring_ends.specs.Rings.{gone, got, room_of}
use Rattle.chain_store.specs.declared.told.Tag.{Tag}
use Rattle.chain_store.specs.declared.told.Told.{Told}
use Rattle.chain_store.specs.Histories.{entries_in, EntersAs}

-- the nodes under these heads
abbrev pub under : List Head → List Node → List PlacedNode
under [] nodes = []
under (head ∷ heads) [] = []
under (head ∷ heads) (node ∷ nodes) = record { head = head; node = node } ∷ under heads nodes

-- the nodes of a region that a history carried, in order
abbrev pub carried_from : ℕ → List Told → List PlacedNode
carried_from region log = flat_map (λ (t : Told). under (carried region t.entry.event) t.nodes) log

-- the own nodes of a column that come next from a place of its line on, as they are stored
abbrev pub AreNextOwn : ColumnState → ℕ → List PlacedNode → Type 0
AreNextOwn column start items = (n : ℕ) (i : PlacedNode) → slice_get items n ≡ Some i
    → (slice_get (chains_of column column.region) (start + n) ≡ Some i.head) × HasStored column i.head.key i.node

-- the ring has no room that is known of, or the whole own line has gone into it, or the next node of that is trimmed
abbrev pub IsFedFrom : ColumnState → Sends → Type 0
IsFedFrom column s =
    (room_of s ≡ 0) ⊎ (length (line column.journal) ≤ length (gone s))
    ⊎ (length (gone s) < at (base_of column) column.region)

-- What was sent is a beginning of the own line in each lawful history that goes on from this one, and each node of it entered
-- by an entry of this one.
pub record AreSent (t : Tag) (log : List Told) (items : List PlacedNode) : Type 0 where
  pub begins : (later : List Told) → IsPrefix log later
      → IsColumnHistory t.region t.regions (dated t.region (entries_in later))
      → IsPrefix (map (λ (i : PlacedNode). i.head) items) (chain t.region (dated t.region (entries_in later)) t.region)
  pub entered : (n : ℕ) (i : PlacedNode) → slice_get items n ≡ Some i → EntersAs log i.head.key.id i.node

-- what was received of a region is what the history carried of it, then what waits, each node of it under its own head
pub record AreReceived (region : ℕ) (log : List Told) (r : Receives) : Type 0 where
  pub carried : got r ≡ carried_from region log ++ r.waiting.items
  pub heads : OfTheirHeads region r.waiting.items

-- the rings of a column with this tag fit the history
pub record RingsFit (t : Tag) (rings : Rings) (log : List Told) : Type 0 where
  pub sent : (n : ℕ) (s : Sends) → slice_get rings.sends.items n ≡ Some s → AreSent t log (gone s)
  pub received : (region : ℕ) (r : Receives) → region < t.regions → region ≢ t.region
      → slice_get rings.receives.items (ring_place t.region region) ≡ Some r → AreReceived region log r

-- What a history carried of an origin is a beginning of the origin's line in the origin's own history, each node as it entered
-- there.
pub record IsCopied (t : Tag) (origin_log log : List Told) : Type 0 where
  pub begins : IsPrefix (map (λ (i : PlacedNode). i.head) (carried_from t.region log))
      (chain t.region (dated t.region (entries_in origin_log)) t.region)
  pub entered : (n : ℕ) (i : PlacedNode) → slice_get (carried_from t.region log) n ≡ Some i
      → EntersAs origin_log i.head.key.id i.node
