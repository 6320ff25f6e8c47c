-- Appends, over what a client has seen and knows of its row (`Sees..`). Over the log: lawful_run; over holds: append_core
-- (`Hold..`).
use Rattle.std.specs.Prelude.{◌≡◌, ◌⊎◌, IsTrue, ℕ, ◌+◌, ◌<◌, ◌≤◌, List, ◌++◌, length, map, Some, None, slice_get}
use Rattle.std.specs.List.{All, Contains}
use mathlib.Core.List.{IsPrefix}
use Rattle.log_node.specs.declared.ids.Id.{Id}
use Rattle.log_node.specs.declared.ids.Colours.{Colours}
use Rattle.log_node.specs.declared.ids.Counts.{Counts}
use Rattle.log_node.specs.declared.node.Node.{Node}
use Rattle.log_node.specs.Sets.{members}
use Rattle.log_node.specs.declared.marks.Why.TheVariants.{Memory}
use Rattle.log_node.specs.declared.marks.Outcome.TheVariants.{Gone, Final}
use Rattle.log_node.specs.Standings.{open_entry}
use Rattle.col_core.specs.declared.Event as events
use Rattle.col_core.specs.declared.Event.TheVariants.{Single, Propose}
use Rattle.col_core.specs.declared.Entry.{Entry}
use Rattle.col_core.specs.History.{IsAtEnd, entries, has_entered}
use Rattle.col_core.specs.Computed.{dated}
use Rattle.col_core.specs.Legal.{IsColumnHistory}
use Rattle.col_core.specs.Ids.{Proposes, IsStepOf}
use Rattle.col_core.specs.Rows.{BegunRow, node_wants}
use Rattle.col_core.specs.Log.{is_own, IsBegunFor, HasOutcome}
use Rattle.col_core.specs.Appending.{EntersBehind, StandsUnder, IsClosedFor, IsMarked, IsDecided, EndsAtColour, IsStepWithin}
use Rattle.col_core.specs.Keeping.{Kept, kept_after_single, with_made, with_floor, with_row}
use Rattle.report_text.specs.declared.report.PointPiece.{PointPiece}
use Rattle.lawful_run.specs.Callers.{Caller, node_of}
use Rattle.lawful_run.specs.Appends.{AppendsOne, HadNoStamp, BeginsRow, AppendsSeveral, kept_after_points, IsSettledIn, IsGoneAtEnd, IsGoneForMemory}
use Rattle.lawful_run.specs.Stops.{StopsAfter}
use Rattle.client_law.specs.Knowing.{Seen, Rest, log_seen, SeesOn}
use Rattle.client_law.specs.Making.{MakesAtHome, MakesOnly, made_of, places_since}
use Rattle.client_law.specs.Kept.{IsKeptBy}

-- The node that a client appends wants of each of its colours what the client has played of it.
abbrev pub WantsAreStarts : Type 0
WantsAreStarts = (caller : Caller) (kept : Kept) (colours : Colours) (text : List ℕ) (colour : ℕ)
    → Contains (members colours) colour → node_wants (node_of caller kept colours text) colour ≡ kept.starts colour

-- ONE COLOUR

-- The client's single entered its next node at a place that was not seen before; the node stands at the position of the
-- line that is seen now.
pub record SeesOne (old new : Seen) (rest : Rest) (caller : Caller) (kept : Kept) (node : Node)
    (colour stamp place position : ℕ) : Type 0 where
  pub next : slice_get (rest.nodes caller.client) kept.ids ≡ Some node
  pub unseen : length (old caller.own colour) ≤ place
  pub entered : slice_get (new caller.own colour) place
      ≡ Some (record { by = caller.client; event = Single node.id kept.floor (kept.starts colour); stamp = stamp })
  pub stands : StandsUnder (new caller.own colour) node stamp position

-- An append to one colour stands behind all nodes that were known to stand.
abbrev pub AppendsStand : Type 0
AppendsStand =
    (old new : Seen) (rest : Rest) (caller : Caller) (kept : Kept) (node : Node) (colour stamp place position : ℕ)
    → SeesOn caller old new → IsKeptBy old caller kept
    → SeesOne old new rest caller kept node colour stamp place position
    → AppendsOne (log_seen new rest) caller kept node colour stamp place position

-- What is kept after it, where it was the client's one step.
abbrev pub KeptAfterAppend : Type 0
KeptAfterAppend =
    (old new : Seen) (rest : Rest) (caller : Caller) (kept : Kept) (node : Node) (colour stamp place position : ℕ)
    → SeesOn caller old new → IsKeptBy old caller kept
    → SeesOne old new rest caller kept node colour stamp place position
    → MakesOnly caller.client caller.own colour 1 old new
    → IsKeptBy new caller (kept_after_single kept caller.own colour place stamp position)

-- An append to one colour is refused where no stamp is left for the floor in what is seen now.
abbrev pub NoStampWasLeft : Type 0
NoStampWasLeft = (old new : Seen) (rest : Rest) (caller : Caller) (kept : Kept) (colour : ℕ)
    → SeesOn caller old new → IsKeptBy old caller kept → IsAtEnd (new caller.own colour) kept.floor
    → HadNoStamp (log_seen new rest) caller kept colour

-- SEVERAL COLOURS

-- the places of the client's own steps of late, by colour of its region
abbrev pub steps_since : Caller → Seen → Seen → ℕ → List ℕ
steps_since caller old new colour = places_since caller.client (old caller.own colour) (new caller.own colour)

-- each own step of late in a colour has an event of this kind
abbrev pub EachStep : Caller → Seen → Seen → ℕ → (events.Event → Type 0) → Type 0
EachStep caller old new colour Is =
    (place : ℕ) (e : Entry) → length (old caller.own colour) ≤ place → slice_get (new caller.own colour) place ≡ Some e
    → e.by ≡ caller.client → IsTrue (is_own caller.client e.event) → Is e.event

-- Where the client made these on top, each own step of late is of the kind that each of them is.
abbrev pub StepsOfMade : Type 1
StepsOfMade = (caller : Caller) (old new : Seen) (colour : ℕ) (Is : events.Event → Type 0) (more : List Entry)
    → SeesOn caller old new
    → made_of caller.client (new caller.own colour) ≡ made_of caller.client (old caller.own colour) ++ more
    → All (λ (e : Entry). IsTrue (is_own caller.client e.event) → Is e.event) more
    → EachStep caller old new colour Is

-- An append to several colours has begun: a row was left and is begun for the client's next node, and all that the client
-- did of its own are steps of it.
pub record SeesBegun (old new : Seen) (rest : Rest) (caller : Caller) (kept : Kept) (node : Node) : Type 0 where
  pub several : 2 ≤ length (members node.colours)
  pub next : slice_get (rest.nodes caller.client) kept.ids ≡ Some node
  pub room : kept.rows < caller.rows
  pub row : BegunRow
  pub begun : IsBegunFor (log_seen new rest) node row
  pub steps : (colour : ℕ) → EachStep caller old new colour (IsStepOf node.id)
  pub before : (colour : ℕ) → kept.seen caller.own colour ≤ length (old caller.own colour)

-- An append that has begun so begins its row in the log that is seen, with the client's steps of late.
abbrev pub RowsBegin : Type 0
RowsBegin = (old new : Seen) (rest : Rest) (caller : Caller) (kept : Kept) (node : Node)
    → SeesOn caller old new → SeesBegun old new rest caller kept node
    → BeginsRow (log_seen new rest) caller kept node (steps_since caller old new)

-- What is kept after an append to several colours that is gone or has stopped.
abbrev pub KeptAfterRow : Type 0
KeptAfterRow = (old new : Seen) (caller : Caller) (kept : Kept)
    → SeesOn caller old new → MakesAtHome caller.client caller.own old new → IsKeptBy old caller kept
    → IsKeptBy new caller (with_made (with_row kept) caller.own (steps_since caller old new))

-- a point of an append: where the node entered, and that it stands at the position of the line that is seen now
pub record SeesPoint (old new : Seen) (caller : Caller) (node : Node) (stamp : ℕ) (point : PointPiece) : Type 0 where
  pub entered : EntersBehind (length (old caller.own point.colour)) (new caller.own point.colour) caller.client node
      point.colour point.at
  pub stands : StandsUnder (new caller.own point.colour) node stamp point.position

-- The stamp under which a proposed node stands is above its floor.
abbrev pub FinalIsAbove : Type 0
FinalIsAbove = (own regions : ℕ) (history : List Entry) (node : Node) (wants : Counts) (e : Entry)
    (place position stamp : ℕ) → IsColumnHistory own regions (dated own history)
    → slice_get history place ≡ Some e → e.event ≡ Propose node.id node.floor wants
    → StandsUnder history node stamp position → node.floor < stamp

-- an append to several colours stands in all of them
pub record SeesSeveral (old new : Seen) (rest : Rest) (caller : Caller) (kept : Kept) (node : Node) (stamp : ℕ)
    (points : List PointPiece) : Type 0 where
  pub begun : SeesBegun old new rest caller kept node
  pub floor : node.floor ≡ kept.floor
  pub outcome : HasOutcome (log_seen new rest) node (Final stamp)
  pub colours : map (λ (p : PointPiece). p.colour) points ≡ members node.colours
  pub each : All (SeesPoint old new caller node stamp) points

-- It stands so in the log that is seen, under a stamp above the floor and behind all that was known to stand.
abbrev pub SeveralStand : Type 0
SeveralStand = (old new : Seen) (rest : Rest) (caller : Caller) (kept : Kept) (node : Node) (stamp : ℕ)
    (points : List PointPiece)
    → SeesOn caller old new → IsKeptBy old caller kept
    → SeesSeveral old new rest caller kept node stamp points
    → AppendsSeveral (log_seen new rest) caller kept node stamp points (steps_since caller old new)

-- What is kept after it.
abbrev pub KeptAfterSeveral : Type 0
KeptAfterSeveral = (old new : Seen) (rest : Rest) (caller : Caller) (kept : Kept) (node : Node) (stamp : ℕ)
    (points : List PointPiece)
    → SeesOn caller old new → MakesAtHome caller.client caller.own old new → IsKeptBy old caller kept
    → SeesSeveral old new rest caller kept node stamp points
    → IsKeptBy new caller (with_made (with_row (with_floor (kept_after_points kept caller.own points) stamp)) caller.own
    (steps_since caller old new))

-- the node is closed in a colour for good, as far as is seen
abbrev pub SeesSettledIn : Seen → Rest → Caller → Node → ℕ → Type 0
SeesSettledIn new rest caller node colour = IsClosedFor (log_seen new rest) (new caller.own colour) node colour

-- What is settled so is settled in the log that is seen.
abbrev pub SettledForGood : Type 0
SettledForGood = (new : Seen) (rest : Rest) (caller : Caller) (node : Node) (colour : ℕ)
    → SeesSettledIn new rest caller node colour → IsSettledIn (log_seen new rest) caller node colour

-- What has entered and is open no more stays so, whatever more is seen; so no later help is of it.
abbrev pub ClosedStays : Type 0
ClosedStays = (own regions : ℕ) (seen more : List Entry) (id : Id)
    → IsColumnHistory own regions (dated own more) → IsPrefix seen more
    → IsTrue (has_entered id seen) → open_entry id (entries seen) ≡ None → open_entry id (entries more) ≡ None

-- an id that has entered and is open no more in what had been seen, or that is not proposed in what is seen
abbrev pub NeverOpens : List Entry → List Entry → Id → Type 0
NeverOpens old new id = (IsTrue (has_entered id old) × (open_entry id (entries old) ≡ None))
    ⊎ ((stamp : ℕ) → Proposes new id stamp → ⊥)

-- Such an id was open at no point between, so no help of what was open then is of it.
abbrev pub NotOpenBetween : Type 0
NotOpenBetween = (own regions : ℕ) (old between new : List Entry) (id : Id)
    → IsColumnHistory own regions (dated own new) → IsPrefix old between → IsPrefix between new
    → NeverOpens old new id → open_entry id (entries between) ≡ None

-- the node is settled in all its colours
abbrev pub SeesSettled : Seen → Rest → Caller → Node → Type 0
SeesSettled new rest caller node = All (SeesSettledIn new rest caller node) (members node.colours)

-- An append that has begun, ends at a colour and is settled is gone at the stamps' end in the log that is seen.
abbrev pub GoneAtEnd : Type 0
GoneAtEnd = (old new : Seen) (rest : Rest) (caller : Caller) (kept : Kept) (node : Node) (colour : ℕ)
    → SeesOn caller old new → SeesBegun old new rest caller kept node → EndsAtColour (log_seen new rest) node colour
    → SeesSettled new rest caller node
    → IsGoneAtEnd (log_seen new rest) caller kept node colour (steps_since caller old new)

-- An append that has begun, is gone for want of memory and is settled is gone so in the log that is seen.
abbrev pub GoneForMemory : Type 0
GoneForMemory = (old new : Seen) (rest : Rest) (caller : Caller) (kept : Kept) (node : Node)
    → SeesOn caller old new → SeesBegun old new rest caller kept node
    → HasOutcome (log_seen new rest) node (Gone Memory) → SeesSettled new rest caller node
    → IsGoneForMemory (log_seen new rest) caller kept node (steps_since caller old new)

-- An append has stopped after so many steps: its first colours are marked, it is decided, its first colours are settled,
-- as far as the steps go; and the client took no later step.
pub record SeesStop (old new : Seen) (rest : Rest) (caller : Caller) (node : Node) (steps : ℕ) : Type 0 where
  pub marked : (n colour : ℕ) → slice_get (members node.colours) n ≡ Some colour → n + 1 < steps
      → IsMarked (log_seen new rest) node colour
  pub decided : length (members node.colours) + 2 ≤ steps → IsDecided (log_seen new rest) node
  pub settled : (n colour : ℕ) → slice_get (members node.colours) n ≡ Some colour
      → n + length (members node.colours) + 2 < steps → SeesSettledIn new rest caller node colour
  pub no_later : (n colour : ℕ) → slice_get (members node.colours) n ≡ Some colour
      → EachStep caller old new colour (IsStepWithin n (length (members node.colours)) steps)

-- An append that has begun and has stopped so has stopped after these steps in the log that is seen.
abbrev pub StopsStand : Type 0
StopsStand = (old new : Seen) (rest : Rest) (caller : Caller) (kept : Kept) (node : Node) (steps : ℕ)
    → SeesOn caller old new → SeesBegun old new rest caller kept node
    → SeesStop old new rest caller node steps
    → StopsAfter (log_seen new rest) caller kept node steps (steps_since caller old new)
