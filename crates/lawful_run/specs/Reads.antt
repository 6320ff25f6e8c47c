-- What a sync and a stamped read say of the log.
use Rattle.std.specs.Prelude.{◌≡◌, ◌⊎◌, IsFalse, ℕ, ◌≤◌, max, List, [], ◌∷◌, ◌++◌, length, take, map, Some, slice_get}
use Rattle.std.specs.List.{All, AllZip, Contains}
use Rattle.log_node.specs.declared.ids.Key.{Key}
use Rattle.log_node.specs.declared.ids.Counts.{Counts}
use Rattle.log_node.specs.declared.node.At.{At}
use Rattle.log_node.specs.declared.node.At.TheVariants.{Event, Look}
use Rattle.log_node.specs.declared.node.Head.{Head}
use Rattle.log_node.specs.Seen.{PlacedNode}
use Rattle.log_node.specs.Vectors.{at, IsWithin, is_within}
use Rattle.log_node.specs.Outcomes.{greatest}
use Rattle.col_core.specs.declared.Event.TheVariants.{Raise}
use Rattle.col_core.specs.History.{clock, line}
use Rattle.log_node.specs.Reach.{IsGreatestReachable}
use Rattle.col_core.specs.Cuts.{chain, base}
use Rattle.col_core.specs.PlayOrder.{Place, Stands, IsPlayOrder, greatest_between}
use Rattle.col_core.specs.RegionOrder.{IsRegionOrder, IsClearUpTo}
use Rattle.col_core.specs.Log.{Log, first, HasText}
use Rattle.col_core.specs.Keeping.{Kept, updated, kept_after_event, kept_after_look, kept_after_sync, with_made, with_floor}
use Rattle.report_text.specs.declared.report.SyncPiece.{SyncPiece}
use Rattle.report_text.specs.declared.report.RaisePiece.{RaisePiece}
use Rattle.lawful_run.specs.Callers.{Caller}

-- A sync: after a number of events, no fewer than were seen, the snapshot is the greatest vector that can be reached;
-- no node that was not yet played is below the base, and all own nodes that were known to stand are within.
pub record Syncs (log : Log) (caller : Caller) (kept : Kept) (colour events : ℕ) (snapshot : Counts) : Type 0 where
  pub unseen : kept.seen caller.own colour ≤ events
  pub there : events ≤ length (log.histories caller.own colour)
  pub cut : IsGreatestReachable (chain caller.own (first log caller.own colour events)) snapshot
  pub not_trimmed : IsWithin (base caller.own caller.regions (first log caller.own colour events)) (kept.starts colour)
  pub within : kept.known colour ≤ at snapshot caller.own

-- A node line shows the node that stands at the place, by its key, and the text that its node was appended with.
pub record ShowsNode (log : Log) (caller : Caller) (colour events : ℕ) (place : Place)
    (item : PlacedNode) : Type 0 where
  pub head : Head
  pub stands : Stands (chain caller.own (first log caller.own colour events)) place head
  pub key : item.head.key ≡ head.key
  pub text : HasText log head.key.id item.node.text

-- The node lines of a sync show the nodes from the start to the snapshot, each once, in the order of play.
pub record ShowsPlayed (log : Log) (caller : Caller) (kept : Kept) (colour events : ℕ) (snapshot : Counts)
    (nodes : List PlacedNode) : Type 0 where
  pub order : List Place
  pub played : IsPlayOrder (chain caller.own (first log caller.own colour events)) (kept.starts colour) snapshot order
  pub lines : AllZip (ShowsNode log caller colour events) order nodes

-- the greatest stamp of some nodes
abbrev pub greatest_stamp : List PlacedNode → ℕ
greatest_stamp nodes = greatest (map (λ (item : PlacedNode). item.head.key.stamp) nodes)

-- the greatest stamp of the nodes that a sync plays, which shows none of them
abbrev pub greatest_played : Log → Caller → Kept → ℕ → ℕ → Counts → ℕ
greatest_played log caller kept colour events snapshot =
    greatest_between (chain caller.own (first log caller.own colour events)) (kept.starts colour) snapshot

-- what a client keeps after a sync within another command
abbrev pub kept_after_piece : Log → Caller → Kept → SyncPiece → Kept
kept_after_piece log caller kept sync =
    kept_after_sync kept caller.own sync.colour sync.events sync.counts
    (greatest_played log caller kept sync.colour sync.events sync.counts)

-- The base of the colour's column, after some number of events from what was seen, is this one, and the client's start
-- is below it: it lacks nodes that are trimmed.
pub record IsTrimmed (log : Log) (caller : Caller) (kept : Kept) (colour : ℕ) (shown : Counts) : Type 0 where
  pub events : ℕ
  pub unseen : kept.seen caller.own colour ≤ events
  pub there : events ≤ length (log.histories caller.own colour)
  pub is_base : shown ≡ base caller.own caller.regions (first log caller.own colour events)
  pub below : IsFalse (is_within shown (kept.starts colour))

-- A raise to a stamp is the client's own event at the place, which was not seen before; or after so many events, no
-- fewer than were seen, the clock is at the stamp already. The nodes that the client knew to stand there stand by then.
abbrev pub RaisesClock : Log → Caller → Kept → ℕ → ℕ → At → Type 0
RaisesClock log caller kept stamp colour (Event place) =
    (kept.seen caller.own colour ≤ place)
    × (kept.known colour ≤ length (line (take place (log.histories caller.own colour))))
    × (slice_get (log.histories caller.own colour) place
    ≡ Some (record { by = caller.client; event = Raise stamp; stamp = 0 }))
RaisesClock log caller kept stamp colour (Look events) =
    (kept.seen caller.own colour ≤ events) × (events ≤ length (log.histories caller.own colour))
    × (kept.known colour ≤ length (line (take events (log.histories caller.own colour))))
    × (stamp ≤ clock (take events (log.histories caller.own colour)))

-- what a client keeps after an event or a look that a reply names
abbrev pub kept_after_place : Kept → ℕ → ℕ → At → Kept
kept_after_place kept region colour (Event place) = kept_after_event kept region colour place
kept_after_place kept region colour (Look events) = kept_after_look kept region colour events

-- the raises of a stamped read, one after another
abbrev pub Raises : Log → Caller → ℕ → Kept → List RaisePiece → Kept → Type 0
Raises log caller stamp kept [] after = after ≡ kept
Raises log caller stamp kept (raise ∷ raises) after =
    RaisesClock log caller kept stamp raise.colour raise.at
    × Raises log caller stamp (kept_after_place kept caller.own raise.colour raise.at) raises after

-- the syncs of a stamped read, one after another: no open entry up to the stamp is left
abbrev pub ClearSyncs : Log → Caller → ℕ → Kept → List SyncPiece → Kept → Type 0
ClearSyncs log caller stamp kept [] after = after ≡ kept
ClearSyncs log caller stamp kept (sync ∷ syncs) after =
    Syncs log caller kept sync.colour sync.events sync.counts
    × IsClearUpTo stamp (take sync.events (log.histories caller.own sync.colour))
    × ClearSyncs log caller stamp (kept_after_piece log caller kept sync) syncs after

-- the events before a place, and those of a look
abbrev pub events_until : At → ℕ
events_until (Event place) = place
events_until (Look events) = events

-- A read's stamp is the client's floor, or the clock of one of its columns after some number of events, from what was
-- seen to the column's raise.
abbrev pub IsReadStamp : Log → Caller → Kept → List RaisePiece → ℕ → Type 0
IsReadStamp log caller kept raises stamp =
    (stamp ≡ kept.floor)
    ⊎ ((raise : RaisePiece) × Contains raises raise
    × (events : ℕ) × (kept.seen caller.own raise.colour ≤ events) × (events ≤ events_until raise.at)
    × (stamp ≡ clock (take events (log.histories caller.own raise.colour))))

-- the stamp is not below what was seen of the clock of any of the colours
abbrev pub IsAboveClocks : Log → Caller → Kept → List ℕ → ℕ → Type 0
IsAboveClocks log caller kept colours stamp =
    All (λ colour. (kept.seen caller.own colour ≤ length (log.histories caller.own colour))
    × (clock (take (kept.seen caller.own colour) (log.histories caller.own colour)) ≤ stamp)) colours

-- A stamped read of colours: its stamp is not below the floor and not below what was seen of any clock; each column's
-- clock is raised to it, and after each sync no open entry up to it is left.
pub record ReadsAt (log : Log) (caller : Caller) (kept : Kept) (colours : List ℕ) (stamp : ℕ) (raises : List RaisePiece)
    (syncs : List SyncPiece) (after : Kept) : Type 0 where
  pub raised_colours : map (λ (r : RaisePiece). r.colour) raises ≡ colours
  pub synced_colours : map (λ (s : SyncPiece). s.colour) syncs ≡ colours
  pub above_floor : kept.floor ≤ stamp
  pub above_clocks : IsAboveClocks log caller kept colours stamp
  pub chosen : IsReadStamp log caller kept raises stamp
  -- what the client keeps after the raises, and then after the syncs
  pub raised : Kept
  pub raising : Raises log caller stamp kept raises raised
  pub synced : Kept
  pub syncing : ClearSyncs log caller stamp raised syncs synced
  pub after_is : after ≡ with_floor synced stamp

-- the own lines that the syncs of a stamped read looked at
abbrev pub lines_read : Log → Caller → List SyncPiece → List (List Key)
lines_read log caller syncs =
    map (λ (s : SyncPiece). line (take s.events (log.histories caller.own s.colour))) syncs

-- these are the keys of a stamped read: those in the lines of its colours up to its stamp, in the order of the region
abbrev pub AreKeysRead : Log → Caller → ℕ → List SyncPiece → List Key → Type 0
AreKeysRead log caller stamp syncs keys = IsRegionOrder (lines_read log caller syncs) stamp keys

-- a node line of a scan shows this key and the text of its node
abbrev pub ShowsKey : Log → Key → PlacedNode → Type 0
ShowsKey log key item = (item.head.key ≡ key) × HasText log key.id item.node.text

-- What a sync may have done of which no answer tells: nothing, or it played as a sync does. The snapshot then, and the
-- greatest stamp that was played.
pub data HidesSync (log : Log) (caller : Caller) (kept : Kept) (colour : ℕ) : Counts → ℕ → Type 0 where
  not_played : HidesSync log caller kept colour (kept.starts colour) 0
  played : (events : ℕ) (snapshot : Counts) → Syncs log caller kept colour events snapshot
      → HidesSync log caller kept colour snapshot (greatest_played log caller kept colour events snapshot)

-- the same of several colours, one after another; and what the client then keeps
abbrev pub HidesSyncs : Log → Caller → Kept → List ℕ → Kept → Type 0
HidesSyncs log caller kept [] after = after ≡ kept
HidesSyncs log caller kept (colour ∷ colours) after =
    (snapshot : Counts) × (stamp : ℕ) × HidesSync log caller kept colour snapshot stamp
    × HidesSyncs log caller
    (record kept { floor = max kept.floor stamp; starts = updated kept.starts colour snapshot }) colours after

-- What a stamped read may have done of which no answer tells: raises of its columns to its stamp, which is chosen as
-- that of any read; syncs; and that the floor rose to the stamp. A lawful history has one raise to a stamp at most.
pub record HidesRead (log : Log) (caller : Caller) (kept : Kept) (colours : List ℕ) (after : Kept) : Type 0 where
  pub stamp : ℕ
  -- the places of the raises, by colour
  pub places : ℕ → List ℕ
  pub raises : (colour : ℕ) → All (λ place. Contains colours colour
      × RaisesClock log caller kept stamp colour (Event place))
      (places colour)
  pub above_floor : kept.floor ≤ stamp
  pub above_clocks : IsAboveClocks log caller kept colours stamp
  pub chosen : (stamp ≡ kept.floor)
      ⊎ ((colour : ℕ) × Contains colours colour
      × (events : ℕ) × (kept.seen caller.own colour ≤ events) × (events ≤ length (log.histories caller.own colour))
      × All (λ place. events ≤ place) (places colour)
      × (stamp ≡ clock (take events (log.histories caller.own colour))))
  pub synced : Kept
  pub syncing : HidesSyncs log caller kept colours synced
  pub after_is : (after ≡ with_made synced caller.own places)
      ⊎ (after ≡ with_made (with_floor synced stamp) caller.own places)

-- A stamped read of colours that was refused in this one, since nodes that its client lacks are trimmed there, as the base
-- shows. All columns were raised to its stamp, the colours before this one were synced, and none behind it; the client
-- keeps what it keeps of these raises and syncs, which no answer shows, and its floor does not rise to the stamp.
pub record RefusesRead (log : Log) (caller : Caller) (kept : Kept) (colours : List ℕ) (colour : ℕ) (shown : Counts)
    (after : Kept) : Type 0 where
  pub stamp : ℕ
  pub raises : List RaisePiece
  pub syncs : List SyncPiece
  -- the colours that were not synced
  pub behind : List ℕ
  pub raised_colours : map (λ (r : RaisePiece). r.colour) raises ≡ colours
  pub synced_before : map (λ (s : SyncPiece). s.colour) syncs ++ colour ∷ behind ≡ colours
  pub above_floor : kept.floor ≤ stamp
  pub above_clocks : IsAboveClocks log caller kept colours stamp
  pub chosen : IsReadStamp log caller kept raises stamp
  pub raised : Kept
  pub raising : Raises log caller stamp kept raises raised
  pub syncing : ClearSyncs log caller stamp raised syncs after
  pub trimmed : IsTrimmed log caller after colour shown
