-- Appends to several colours, over the holds before and after (`Hold..`). Over what a client has seen: client_law
-- (`Sees..`); over the log: lawful_run.
use Rattle.std.specs.Prelude.{◌≡◌, ◌≢◌, ◌⊎◌, ℕ, ◌+◌, ◌*◌, ◌<◌, ◌≤◌, true, map, length, Option, Some, None, slice_get}
use Rattle.log_node.specs.declared.ids.Row.{Row}
use Rattle.log_node.specs.declared.node.At.{At}
use Rattle.log_node.specs.declared.node.At.TheVariants.{Event, Look}
use Rattle.log_node.specs.declared.node.Node.{Node}
use Rattle.log_node.specs.declared.marks.Why.TheVariants.{Memory, StampEnd}
use Rattle.log_node.specs.declared.marks.Mark.{Mark}
use Rattle.log_node.specs.declared.marks.Mark.TheVariants as marks
use Rattle.log_node.specs.declared.marks.Outcome.{Outcome}
use Rattle.log_node.specs.declared.marks.Outcome.TheVariants.{Open, Gone, Final}
use Rattle.log_node.specs.Seen.{BegunAppend}
use Rattle.log_node.specs.Sets.{has, members}
use Rattle.col_core.specs.declared.Event as events
use Rattle.col_core.specs.History.{entry_key}
use Rattle.col_core.specs.Ids.{IsStepOf}
use Rattle.col_core.specs.Appending.{StandsUnder, IsStepWithin}
use Rattle.stamp_board.specs.Views.{Grows, KnowsBegun, KnowsMark, KnowsOutcome}
use Rattle.chain_store.specs.declared.hold.Hold.{Hold}
use Rattle.chain_store.specs.declared.region.Region.{Region}
use Rattle.chain_store.specs.Beginning.{begun_for}
use Rattle.chain_store.specs.Columns.{told_propose}
use Rattle.chain_store.specs.Going.{GoesOn}
use Rattle.chain_store.specs.Owning.{row_of}
use Rattle.chain_store.specs.Holds.{seen_in, entries_seen, view_of}
use Rattle.append_core.specs.declared.stood.Point.{Point}
use Rattle.append_core.specs.declared.stood.Stood.{Stood}
use Rattle.append_core.specs.declared.several.MultiFault.{MultiFault}
use Rattle.append_core.specs.declared.several.MultiFault.TheVariants as faults
use Rattle.append_core.specs.Helping.{IsStepIn, HelpsOpen}
use Rattle.append_core.specs.Settled.{HoldKnowsMarked, HoldKnowsSettled}

-- the row that the hold's client begins next
abbrev pub own_row : Hold → Row
own_row g = row_of g.passes.number g.seat.used

-- the node's append in that row, as one holds it who has begun the row for it
abbrev pub own_append : Hold → Node → BegunAppend
own_append g x = begun_for x (own_row g)

-- The hold, which was g, has begun its next row for the node, and no other; it knows all that it knew.
pub record HoldBegins (r : Region) (g h : Hold) (x : Node) : Type 0 where
  pub row : x.row ≡ Some (own_row g)
  pub room : g.seat.used < r.board.size.rows
  pub knows : KnowsBegun (view_of h) (own_row g) x
  pub used : h.seat.used ≡ g.seat.used + 1
  pub next : h.next ≡ x.id.count + 1
  pub grows : Grows (view_of g) (view_of h)

-- an event in the column of one of the node's colours that is among so many first steps of its append
abbrev pub IsStepBefore : Node → ℕ → ℕ → events.Event → Type 0
IsStepBefore x steps c e =
    (n : ℕ) × (slice_get (members x.colours) n ≡ Some c) × IsStepOf x.id e
    × IsStepWithin n (length (members x.colours)) steps e

-- The hold has taken so many first steps of the node's append, and no other: it has begun the row, then marked the
-- colours in their order, then decided, then settled the colours in their order.
pub record HoldStopsAfter (r : Region) (g h : Hold) (x : Node) (steps : ℕ) : Type 0 where
  pub begun : HoldBegins r g h x
  pub marked : (n c : ℕ) → slice_get (members x.colours) n ≡ Some c → n + 1 < steps → HoldKnowsMarked h (own_append g x) c
  pub decided : length (members x.colours) + 2 ≤ steps
      → (o : Outcome) × (o ≢ Open) × KnowsOutcome (view_of h) (own_row g) o
  pub settled : (n c : ℕ) → slice_get (members x.colours) n ≡ Some c → n + length (members x.colours) + 2 < steps
      → (o : Outcome) × HoldKnowsSettled h (own_append g x) o c
  pub goes : GoesOn (IsStepBefore x steps) g h

-- The node entered the colour after what g had seen: by the hold's own proposal, or by another client's before a look.
abbrev pub HoldEnters : Hold → Hold → Node → ℕ → At → Type 0
HoldEnters g h x colour (Event place) =
    (length (seen_in g colour) ≤ place)
    × (n : ℕ) × (slice_get (seen_in h colour) place ≡ Some (told_propose colour g.passes.number x n))
HoldEnters g h x colour (Look seen) =
    (length (seen_in g colour) ≤ seen) × (seen ≤ length (seen_in h colour))
    × (place : ℕ) × (place < seen) × (by : ℕ) × (by ≢ g.passes.number)
    × (n : ℕ) × (slice_get (seen_in h colour) place ≡ Some (told_propose colour by x n))

-- a point of an append: where the node entered, and that it stands at the position of the line that h has seen
pub record HoldSeesPoint (g h : Hold) (x : Node) (stamp : ℕ) (p : Point) : Type 0 where
  pub entered : HoldEnters g h x p.colour p.at
  pub stands : StandsUnder (entries_seen h p.colour) x stamp p.position

-- an append to several colours stands in the lines of all of them, under one stamp; else the hold only helped
pub record HoldAppendsSeveral (r : Region) (g h : Hold) (x : Node) (s : Stood) : Type 0 where
  pub begun : HoldBegins r g h x
  pub stamp : ℕ
  pub key : s.key ≡ entry_key stamp x.id
  pub outcome : KnowsOutcome (view_of h) (own_row g) (Final stamp)
  pub colours : map (λ (p : Point). p.colour) s.points ≡ members x.colours
  pub each : (n : ℕ) (p : Point) → slice_get s.points n ≡ Some p → HoldSeesPoint g h x stamp p
  pub goes : GoesOn (λ c e. IsStepIn (own_append g x) c e ⊎ HelpsOpen g h e) g h

-- the row's mark of the colour is known, and is no fence for the stamps' end
abbrev pub IsMarkedElse : Hold → Row → ℕ → Type 0
IsMarkedElse h row c = (m : Mark) × (m ≢ marks.None) × (m ≢ marks.Fenced StampEnd) × KnowsMark (view_of h) row c m

-- the colour is the node's least whose mark is a fence for the stamps' end
pub record IsFirstEnd (h : Hold) (x : Node) (row : Row) (c : ℕ) : Type 0 where
  pub coloured : has x.colours c ≡ true
  pub fence : KnowsMark (view_of h) row c (marks.Fenced StampEnd)
  pub least : (d : ℕ) → has x.colours d ≡ true → d < c → IsMarkedElse h row d

-- the append is open no more in any of its colours, as far as h has seen, and the hold did nothing else
pub record HoldSettlesAll (r : Region) (g h : Hold) (x : Node) (o : Outcome) : Type 0 where
  pub begun : HoldBegins r g h x
  pub outcome : KnowsOutcome (view_of h) (own_row g) o
  pub settled : (c : ℕ) → has x.colours c ≡ true → HoldKnowsSettled h (own_append g x) o c
  pub goes : GoesOn (IsStepIn (own_append g x)) g h

-- the append is gone, since the colour is the least that had no stamp left
pub record HoldEndsAt (r : Region) (g h : Hold) (x : Node) (c : ℕ) : Type 0 where
  pub all : HoldSettlesAll r g h x (Gone StampEnd)
  pub first : IsFirstEnd h x (own_row g) c

-- the append is gone, since some colour found no memory
abbrev pub HoldEndsForMemory : Region → Hold → Hold → Node → Type 0
HoldEndsForMemory r g h x = HoldSettlesAll r g h x (Gone Memory)

-- a stop after so many steps
abbrev pub HoldStops : Region → Hold → Hold → Node → ℕ → Type 0
HoldStops r g h x steps = ((steps ≡ 0) × (h ≡ g)) ⊎ ((0 < steps) × HoldStopsAfter r g h x steps)

-- What an append to several colours leaves that does not stand, where a stop was asked for or none: an end of the stamps
-- or want of memory, each settled for good, or no memory before anything was begun; or just that stop.
abbrev pub HoldLeaves : Region → Hold → Hold → Node → Option ℕ → MultiFault → Type 0
HoldLeaves r g h x stop (faults.Full used) = ⊥
HoldLeaves r g h x stop (faults.StampEnd colour) = (stop ≡ None) × HoldEndsAt r g h x colour
HoldLeaves r g h x stop (faults.Stopped steps) = (stop ≡ Some steps) × HoldStops r g h x steps
HoldLeaves r g h x stop faults.NoMemory = (h ≡ g) ⊎ ((stop ≡ None) × HoldEndsForMemory r g h x)

-- a stop is at one of the append's steps
pub record IsStopOf (x : Node) (steps : ℕ) : Type 0 where
  pub within : steps ≤ 2 * length (members x.colours) + 2
