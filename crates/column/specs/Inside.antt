-- What a column keeps true of its fields.
use Rattle.std.specs.Prelude.{◌≡◌, ◌≢◌, ℕ, ◌+◌, ◌<◌, ◌≤◌, ◌==◌, min, max, true, IsTrue, List, [], ◌∷◌, Some, length}
use Rattle.std.specs.Prelude.{map, drop, slice_get, if◌then◌else◌}
use Rattle.std.specs.List.{AllByRecursion, fold, range_with_len}
use Rattle.log_node.specs.declared.ids.Counts.{Counts}
use Rattle.log_node.specs.declared.limits.TheConstants.{MAX_COLOURS}
use Rattle.log_node.specs.declared.node.Node.{Node}
use Rattle.log_node.specs.Seen.{PlacedNode}
use Rattle.log_node.specs.Vectors.{at, IsWithin}
use Rattle.log_node.specs.Order.{key_below}
use Rattle.log_node.specs.Sets.{has}
use Rattle.skeen_core.specs.declared.waiting.Waiting.{Waiting}
use Rattle.log_node.specs.Standings.{Standing}
use Rattle.col_core.specs.declared.Event.{Event}
use Rattle.col_core.specs.declared.Event.TheVariants.{Single, Propose, Settle, Raise, Give, Carry, Trim}
use Rattle.col_core.specs.declared.Entry.{Entry}
use Rattle.col_core.specs.History.{clock, entries, open_count, has_entered}
use Rattle.log_node.specs.Reach.{Reachable}
use Rattle.col_core.specs.Cuts.{needs_of, noted}
use Rattle.col_core.specs.Computed.{dated}
use Rattle.col_core.specs.Legal.{IsColumnHistory}
use Rattle.col_core.specs.Rows.{node_wants}
use Rattle.column.specs.Entering.{EnteredNode}
use Rattle.column.specs.Columns.{ColumnState, history_of, chains_of, held_of, copy_of, cut_of, base_of, HasRow}

-- the event is the one by which a node enters
abbrev pub EntersNode : ℕ → Node → Event → Type 0
EntersNode colour node (Single id floor wants) = (id ≡ node.id) × (floor ≡ node.floor)
    × (wants ≡ node_wants node colour)
EntersNode colour node (Propose id floor wants) = (id ≡ node.id) × (floor ≡ node.floor)
    × (wants ≡ node_wants node colour)
EntersNode colour node (Settle _ _) = ⊥
EntersNode colour node (Raise _) = ⊥
EntersNode colour node (Give _ _) = ⊥
EntersNode colour node (Carry _ _ _) = ⊥
EntersNode colour node (Trim _) = ⊥

-- A stored entry of a column: it has the node that entered under its id, with the needs by the history.
pub record IsEntered (region colour : ℕ) (journal : List Entry) (w : Waiting EnteredNode) : Type 0 where
  pub id : w.thing.node.id ≡ w.key.id
  pub in_region : w.thing.node.region ≡ region
  pub in_colour : has w.thing.node.colours colour ≡ true
  pub entered : has_entered w.key.id journal ≡ true
  pub by_event : (n : ℕ) × (e : Entry) × (slice_get journal n ≡ Some e) × EntersNode colour w.thing.node e.event
  pub needs : needs_of (dated region journal) w.key.id ≡ w.thing.needs
  pub row : HasRow w.settled w.thing.node

-- every key is above those before it
abbrev pub Rises : List Standing → Type 0
Rises [] = Unit {0}
Rises (e ∷ es) = AllByRecursion (λ (f : Standing). IsTrue (key_below e.key f.key)) es × Rises es

-- for each other region the kept nodes have the heads of its chain from the base on
pub record AreCopies (column : ColumnState) : Type 0 where
  pub of_each : length column.copies ≡ 4
  pub heads : (region : ℕ) → region < 4 → region ≢ column.region
      → map (λ (i : PlacedNode). i.head) (copy_of column region)
      ≡ drop (at (base_of column) region) (chains_of column region)

-- what ties a column's queue and copies to its journal
pub record IsColumn (column : ColumnState) : Type 0 where
  pub in_range : column.region < 4
  pub in_colours : column.colour < MAX_COLOURS
  pub few_regions : column.regions ≤ 4
  pub clock_is : column.queue.clock ≡ clock column.journal
  pub entries_are : column.queue.entries ≡ entries column.journal
  pub dropped : column.queue.base ≡ at (base_of column) column.region
  pub lawful : IsColumnHistory column.region column.regions (history_of column)
  pub base_within : IsWithin (base_of column) (cut_of column)
  pub things : AllByRecursion (IsEntered column.region column.colour column.journal) column.queue.stored
  pub copies : AreCopies column

-- the room in the journal: for the settling of each open entry, and for so many entries more and their settlings
pub record IsRoomFor (column : ColumnState) (opens spare capacity : ℕ) : Type 0 where
  pub enough : open_count column.queue.entries ≤ opens
  pub few : opens ≤ length column.journal
  pub room : length column.journal + opens + (spare + spare) ≤ capacity
  pub spares : spare ≡ column.queue.spare

-- the numbers that are kept: how much of each other chain was carried, what each region has asked past, and the base
pub record AreNumbers (column : ColumnState) (carried notes base : Counts) : Type 0 where
  pub carried_are : (region : ℕ) → region < 4 → region ≢ column.region → at carried region ≡ held_of column region
  pub notes_are : (region : ℕ) → region < 4 → at notes region ≡ noted (history_of column) region
  pub base_is : base ≡ base_of column

pub record IsKept (column : ColumnState) (carried notes base : Counts) (opens spare capacity : ℕ) : Type 0 where
  pub column_is : IsColumn column
  pub numbers_are : AreNumbers column carried notes base
  pub room_is : IsRoomFor column opens spare capacity

-- what could be played of the old column can be reached in the new one, and no node above it is trimmed there
pub record IsStillReached (old new : ColumnState) : Type 0 where
  pub reached : Reachable (chains_of new) (cut_of old)
  pub base : IsWithin (base_of new) (cut_of old)

-- the least of the bound and the numbers of every other region
abbrev pub least_noted : Counts → ℕ → ℕ → ℕ → ℕ
least_noted notes own regions bound =
    fold (λ n region. if region == own then n else min n (at notes region)) bound (range_with_len 0 regions)

-- a region's base after a trim with these counts, where these numbers were asked past
abbrev pub trimmed_base : Counts → Counts → Counts → Counts → ℕ → ℕ → ℕ → ℕ
trimmed_base base notes cut counts own regions region =
    let bound = min (at counts region) (at cut region) in
    max (at base region) (if region == own then least_noted notes own regions bound else bound)
