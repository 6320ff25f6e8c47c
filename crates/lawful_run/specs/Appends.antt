-- Appends, over the log: what an answer says of it. Over what a client has seen: client_law (`Sees..`); over holds:
-- append_core (`Hold..`).
use Rattle.std.specs.Prelude.{◌≡◌, ℕ, ◌==◌, ◌<◌, ◌≤◌, List, [], ◌∷◌, length, take, map, Option, Some, None, slice_get, if◌then◌else◌}
use Rattle.std.specs.List.{All, fold}
use Rattle.log_node.specs.declared.ids.Colours.{Colours}
use Rattle.log_node.specs.declared.node.At.TheVariants.{Event}
use Rattle.log_node.specs.declared.node.Node.{Node}
use Rattle.log_node.specs.Sets.{members}
use Rattle.log_node.specs.Vectors.{at}
use Rattle.log_node.specs.declared.marks.Why.TheVariants.{Memory}
use Rattle.log_node.specs.declared.marks.Outcome.TheVariants.{Gone, Final}
use Rattle.col_core.specs.declared.Event.TheVariants.{Single}
use Rattle.col_core.specs.declared.Entry.{Entry}
use Rattle.col_core.specs.History.{entries, open_count, line, IsAtEnd}
use Rattle.col_core.specs.Ids.{IsStepOf}
use Rattle.col_core.specs.Rows.{BegunRow}
use Rattle.col_core.specs.Log.{Log, IsBegunFor, HasOutcome}
use Rattle.col_core.specs.Appending.{EntersBehind, StandsUnder, IsClosedFor, EndsAtColour}
use Rattle.col_core.specs.Keeping.{Kept, kept_after_single, kept_after_point, with_made, with_floor, with_node, with_row}
use Rattle.report_text.specs.declared.report.PointPiece.{PointPiece}
use Rattle.lawful_run.specs.Callers.{Caller}

-- An append to one colour: the node that the client's command makes over what it keeps is the next of its nodes. It
-- entered by an event at the place, which was not seen before, and stands under its stamp at the position of the line,
-- behind all nodes that were known to stand there.
pub record AppendsOne (log : Log) (caller : Caller) (kept : Kept) (node : Node)
    (colour stamp place position : ℕ) : Type 0 where
  pub next : slice_get (log.nodes caller.client) kept.ids ≡ Some node
  pub entered : slice_get (log.histories caller.own colour) place
      ≡ Some (record { by = caller.client; event = Single node.id kept.floor (kept.starts colour); stamp = stamp })
  pub unseen : kept.seen caller.own colour ≤ place
  pub stands : StandsUnder (log.histories caller.own colour) node stamp position
  pub behind : kept.known colour ≤ position
  pub above : kept.floor < stamp

-- No stamp was left for the client's floor, after some number of events from what was seen.
pub record HadNoStamp (log : Log) (caller : Caller) (kept : Kept) (colour : ℕ) : Type 0 where
  pub events : ℕ
  pub unseen : kept.seen caller.own colour ≤ events
  pub there : events ≤ length (log.histories caller.own colour)
  pub ended : IsAtEnd (take events (log.histories caller.own colour)) kept.floor

-- at the places, by colour, none of which was seen before, stand proposals and settlings of the node by the client itself
abbrev pub AreSteps : Log → Caller → Kept → Node → (ℕ → List ℕ) → Type 0
AreSteps log caller kept node places = (colour : ℕ) → All (λ place.
    (kept.seen caller.own colour ≤ place)
    × (e : Entry) × (slice_get (log.histories caller.own colour) place ≡ Some e)
    × (e.by ≡ caller.client) × IsStepOf node.id e.event) (places colour)

-- An append to several colours has begun: its node is the next of the client's nodes, a row was left and is begun for
-- it, and the client itself took steps of it at these places.
pub record BeginsRow (log : Log) (caller : Caller) (kept : Kept) (node : Node) (places : ℕ → List ℕ) : Type 0 where
  pub several : 2 ≤ length (members node.colours)
  pub next : slice_get (log.nodes caller.client) kept.ids ≡ Some node
  pub room : kept.rows < caller.rows
  pub row : BegunRow
  pub begun : IsBegunFor log node row
  pub steps : AreSteps log caller kept node places

-- a point of an append to several colours: where the node entered, and where it stands
pub record StandsAt (log : Log) (caller : Caller) (kept : Kept) (node : Node) (stamp : ℕ)
    (point : PointPiece) : Type 0 where
  pub entered : EntersBehind (kept.seen caller.own point.colour) (log.histories caller.own point.colour) caller.client
      node point.colour point.at
  pub stands : StandsUnder (log.histories caller.own point.colour) node stamp point.position
  pub behind : kept.known point.colour ≤ point.position

-- An append to several colours: its row is final under the stamp, and the node stands at each of the points, one for
-- each of its colours.
pub record AppendsSeveral (log : Log) (caller : Caller) (kept : Kept) (node : Node) (stamp : ℕ)
    (points : List PointPiece)
    (places : ℕ → List ℕ) : Type 0 where
  pub begins : BeginsRow log caller kept node places
  pub outcome : HasOutcome log node (Final stamp)
  pub colours : map (λ (p : PointPiece). p.colour) points ≡ members node.colours
  pub each : All (StandsAt log caller kept node stamp) points
  pub above : kept.floor < stamp

-- after these points
abbrev pub kept_after_points : Kept → ℕ → List PointPiece → Kept
kept_after_points kept own points =
    fold (λ k (p : PointPiece). kept_after_point k own p.colour p.at p.position) kept points

-- The append was answered with its stamp, its row where it took one, and its points; and what the client then keeps.
abbrev pub Appends : Log → Caller → Kept → Node → ℕ → Option ℕ → List PointPiece → Kept → Type 0
Appends log caller kept node stamp None [] after = ⊥
Appends log caller kept node stamp None (point ∷ []) after =
    (members node.colours ≡ point.colour ∷ []) × (place : ℕ) × (point.at ≡ Event place)
    × AppendsOne log caller kept node point.colour stamp place point.position
    × (after ≡ kept_after_single kept caller.own point.colour place stamp point.position)
Appends log caller kept node stamp None (point ∷ other ∷ points) after = ⊥
Appends log caller kept node stamp (Some number) points after =
    (number ≡ kept.rows) × (places : ℕ → List ℕ) × AppendsSeveral log caller kept node stamp points places
    × (after ≡ with_made (with_row (with_floor (kept_after_points kept caller.own points) stamp)) caller.own places)

-- The node stands in all its colours under the stamp, and the answer does not show where.
pub data AppendsUnshown (log : Log) (caller : Caller) (kept : Kept) (node : Node) (stamp : ℕ) : Kept → Type 0 where
  one_unshown : (colour place position : ℕ) → members node.colours ≡ colour ∷ []
      → AppendsOne log caller kept node colour stamp place position
      → AppendsUnshown log caller kept node stamp
      (with_made (with_node (with_floor kept stamp)) caller.own (λ c. if c == colour then place ∷ [] else []))
  several_unshown : (places : ℕ → List ℕ) → BeginsRow log caller kept node places → HasOutcome log node (Final stamp)
      → All (λ colour. (position : ℕ) × StandsUnder (log.histories caller.own colour) node stamp position)
      (members node.colours)
      → kept.floor < stamp
      → AppendsUnshown log caller kept node stamp (with_made (with_row (with_floor kept stamp)) caller.own places)

-- after some number of events the node is closed for good in the colour
abbrev pub IsSettledIn : Log → Caller → Node → ℕ → Type 0
IsSettledIn log caller node colour =
    (events : ℕ) × (events ≤ length (log.histories caller.own colour))
    × IsClosedFor log (take events (log.histories caller.own colour)) node colour

-- the node is open in none of its colours any more
abbrev pub IsSettled : Log → Caller → Node → Type 0
IsSettled log caller node = All (IsSettledIn log caller node) (members node.colours)

-- An append to several colours is gone, since the colour is the least that had no stamp left; its node is open nowhere.
pub record IsGoneAtEnd (log : Log) (caller : Caller) (kept : Kept) (node : Node) (colour : ℕ)
    (places : ℕ → List ℕ) : Type 0 where
  pub begins : BeginsRow log caller kept node places
  pub ends : EndsAtColour log node colour
  pub settled : IsSettled log caller node

-- No stamp was left for the append in this colour; and what the client then keeps.
pub data HasNoStamp (log : Log) (caller : Caller) (kept : Kept) (node : Node) (colour : ℕ) : Kept → Type 0 where
  none_for_one : members node.colours ≡ colour ∷ [] → HadNoStamp log caller kept colour
      → HasNoStamp log caller kept node colour kept
  none_for_several : (places : ℕ → List ℕ) → IsGoneAtEnd log caller kept node colour places
      → HasNoStamp log caller kept node colour (with_made (with_row kept) caller.own places)

-- an append to several colours of a client that has begun as many rows as it may
pub record HasNoRowLeft (caller : Caller) (kept : Kept) (colours : Colours) (used : ℕ) : Type 0 where
  pub several : 2 ≤ length (members colours)
  pub shown : used ≡ kept.rows
  pub all : kept.rows ≡ caller.rows

-- An append to several colours found no memory: its row is gone for that, and the node is open nowhere.
pub record IsGoneForMemory (log : Log) (caller : Caller) (kept : Kept) (node : Node)
    (places : ℕ → List ℕ) : Type 0 where
  pub begins : BeginsRow log caller kept node places
  pub outcome : HasOutcome log node (Gone Memory)
  pub settled : IsSettled log caller node

-- After so many events, no fewer than were seen, the own line has this length, and so many entries are open.
pub record IsSoLong (log : Log) (caller : Caller) (kept : Kept) (colour events lined waiting : ℕ) : Type 0 where
  pub unseen : kept.seen caller.own colour ≤ events
  pub there : events ≤ length (log.histories caller.own colour)
  pub lined_is : lined ≡ length (line (take events (log.histories caller.own colour)))
  pub waiting_is : waiting ≡ open_count (entries (take events (log.histories caller.own colour)))

-- Right before the event of this point no entry was open, and the line was as long as the client has played.
abbrev pub WasNext : Log → Caller → Kept → PointPiece → Type 0
WasNext log caller kept point =
    (place : ℕ) × (point.at ≡ Event place) × IsSoLong log caller kept point.colour place point.position 0
    × (point.position ≡ at (kept.starts point.colour) caller.own)
