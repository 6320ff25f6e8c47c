-- How a journal is done again, event by event.
use Rattle.std.specs.Prelude.{◌≡◌, ◌≤◌, ◌&&◌, ◌||◌, ◌==◌, nat_le, IsTrue, IsFalse, Bool, true, false, ℕ, ◌+◌, List, [], ◌∷◌, ◌++◌, length, map, take, Option, Some, None, slice_get}
use Rattle.std.specs.List.{find, range_with_len}
use Rattle.std.specs.List.Sorted.{IsNonDecreasingBy}
use Rattle.std.specs.Option.{option_map}
use Rattle.log_node.specs.declared.ids.Id.{Id}
use Rattle.log_node.specs.declared.ids.Counts.{Counts}
use Rattle.log_node.specs.declared.limits.TheConstants.{MAX_STAMP}
use Rattle.log_node.specs.declared.marks.Outcome.{Outcome}
use Rattle.log_node.specs.declared.marks.Outcome.TheVariants.{Open, Gone, Final}
use Rattle.log_node.specs.declared.node.Node.{Node}
use Rattle.log_node.specs.Order.{same_id}
use Rattle.log_node.specs.Sets.{has}
use Rattle.col_core.specs.declared.Event.{Event}
use Rattle.col_core.specs.declared.Event.TheVariants.{Single, Propose, Settle, Raise, Give, Carry, Trim}
use Rattle.col_core.specs.declared.Entry.{Entry}
use Rattle.col_core.specs.History.{enters, has_entered}
use Rattle.col_core.specs.Computed.{dated}
use Rattle.col_core.specs.Legal.{IsColumnHistory, IsLawfulEvent}
use Rattle.col_core.specs.Rows.{node_wants}
use Rattle.column.specs.Columns.{ColumnState, history_of}
use Rattle.column_track.specs.declared.marks.Mark.{Mark}
use Rattle.column_track.specs.declared.places.Places.{Places}
use Rattle.column_track.specs.Tracks.{Tracked, EntersAt, mark_after}

-- the event gives a stamp
abbrev pub gives_stamp : Event → Bool
gives_stamp (Single id floor wants) = true
gives_stamp (Propose id floor wants) = true
gives_stamp (Settle id outcome) = false
gives_stamp (Raise to) = false
gives_stamp (Give region from) = false
gives_stamp (Carry region start heads) = false
gives_stamp (Trim counts) = false

-- an event that gives a stamp, or an entry without one
abbrev pub is_stamped : Entry → Bool
is_stamped e = gives_stamp e.event || (e.stamp == 0)

-- the entry comes in the journal behind those before
abbrev pub IsNextOf : List Entry → List Entry → Entry → Type 0
IsNextOf journal before e = (n : ℕ) × (before ≡ take n journal) × (slice_get journal n ≡ Some e)

-- an id that was proposed under a stamp, if it was, may be settled with this outcome
abbrev pub may_settle : Outcome → Option ℕ → Bool
may_settle Open proposed = false
may_settle (Gone why) proposed = true
may_settle (Final stamp) None = false
may_settle (Final stamp) (Some least) = nat_le least stamp && nat_le stamp MAX_STAMP

-- a node that stands for one that an event enters in the colour 0
pub record IsNodeOf (region : ℕ) (id : Id) (floor : ℕ) (wants : Counts) (node : Node) : Type 0 where
  pub of_id : node.id ≡ id
  pub in_region : node.region ≡ region
  pub in_colour : has node.colours 0 ≡ true
  pub floor_is : node.floor ≡ floor
  pub wants_are : node_wants node 0 ≡ wants
  pub row : node.row ≡ None → ⊥

-- the column has the entry as its last, and is else as before
pub record HasGone (old new : ColumnState) (by : ℕ) (event : Event) (stamp : ℕ) : Type 0 where
  pub region : new.region ≡ old.region
  pub colour : new.colour ≡ old.colour
  pub regions : new.regions ≡ old.regions
  pub journal : new.journal ≡ old.journal ++ record { by = by; event = event; stamp = stamp } ∷ []

-- the entry may come next and is the column's last; or it may not come
abbrev pub Goes : ColumnState → ColumnState → ℕ → Event → ℕ → Bool → Type 0
Goes old new by event stamp true =
    HasGone old new by event stamp
Goes old new by event stamp false = IsLawfulEvent old.region old.regions (history_of old) event stamp → ⊥

-- what held after each number of events, from none to all
abbrev pub marks_of : ℕ → ℕ → List Entry → ℕ → List Mark
marks_of own regions journal count =
    map (λ n. mark_after own regions (take n journal)) (range_with_len 0 count)

-- all events of the journal are the column's, with what held after each number of them; or it is no lawful history
abbrev pub GoesThrough : ColumnState → ColumnState → List Entry → List Mark → Bool → Type 0
GoesThrough old new journal marks true =
    (new.region ≡ old.region) × (new.regions ≡ old.regions) × (new.journal ≡ journal)
    × (marks ≡ marks_of old.region old.regions journal (length journal + 1))
GoesThrough old new journal marks false = IsColumnHistory old.region old.regions (dated old.region journal) → ⊥

-- the id that an event enters
abbrev pub entering : Event → Option Id
entering (Single id floor wants) = Some id
entering (Propose id floor wants) = Some id
entering (Settle id outcome) = None
entering (Raise to) = None
entering (Give region from) = None
entering (Carry region start heads) = None
entering (Trim counts) = None

-- the place that is kept for an id
abbrev pub place_in : Places → Id → Option ℕ
place_in places id = option_map (λ e. e.1) (find (λ e. same_id e.0 id) places.by_id.entries)

-- no event enters an id that one before it enters
abbrev pub EntersOnce : List Entry → Type 0
EntersOnce journal = (n : ℕ) (e : Entry) (id : Id) → slice_get journal n ≡ Some e → IsTrue (enters id e.event)
    → IsFalse (has_entered id (take n journal))

-- each id enters once, at the place that is kept for it
pub record ArePlaces (journal : List Entry) (places : Places) : Type 0 where
  pub once : EntersOnce journal
  pub each : (id : Id) → EntersAt journal id (place_in places id)

-- the places of all ids; or an id enters twice
abbrev pub MaybePlaces : List Entry → Option Places → Type 0
MaybePlaces journal None = EntersOnce journal → ⊥
MaybePlaces journal (Some places) = ArePlaces journal places

-- the id entered under the stamp, or not at all
abbrev pub IsStampOf : List Entry → Id → Option ℕ → Type 0
IsStampOf journal id None = IsFalse (has_entered id journal)
IsStampOf journal id (Some stamp) =
    (place : ℕ) × (e : Entry) × (slice_get journal place ≡ Some e) × IsTrue (enters id e.event) × (e.stamp ≡ stamp)

-- what contracts see of a track
abbrev pub tracked : ColumnState → Tracked
tracked column = record { region = column.region; regions = column.regions; journal = column.journal }

-- what a track keeps true of its fields
pub record IsTrack (column : ColumnState) (marks : List Mark) (places : Places) : Type 0 where
  pub marks_are : marks ≡ marks_of column.region column.regions column.journal (length column.journal + 1)
  pub places_are : ArePlaces column.journal places

-- no mark has a lesser clock than one before it
abbrev pub ClocksDoNotFall : List Mark → Type 0
ClocksDoNotFall marks = IsNonDecreasingBy (λ (m : Mark). m.clock) marks

-- a mark from one place to another has the clock
abbrev pub HasClock : List Mark → ℕ → ℕ → ℕ → Type 0
HasClock marks from to stamp =
    (n : ℕ) × (from ≤ n) × (n ≤ to) × (m : Mark) × (slice_get marks n ≡ Some m) × (m.clock ≡ stamp)
