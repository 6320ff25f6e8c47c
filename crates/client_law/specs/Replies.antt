-- What explains each reply, and what is kept after it: the answers to appends, stops, syncs, pulls and trims.
use Rattle.std.specs.Prelude.{◌≡◌, ◌≢◌, ◌⊎◌, IsTrue, IsFalse, ℕ, ◌+◌, ◌≤◌, List, [], ◌∷◌, length, take, Some, None, slice_get}
use Rattle.log_node.specs.declared.ids.Colours.{Colours}
use Rattle.log_node.specs.declared.ids.Counts.{Counts}
use Rattle.log_node.specs.declared.node.At.{At}
use Rattle.log_node.specs.declared.node.At.TheVariants.{Event}
use Rattle.log_node.specs.declared.marks.Why.TheVariants.{Memory}
use Rattle.log_node.specs.declared.marks.Outcome.TheVariants.{Gone}
use Rattle.log_node.specs.Seen.{PlacedNode}
use Rattle.log_node.specs.Sets.{members}
use Rattle.log_node.specs.Vectors.{at, is_within}
use Rattle.col_core.specs.declared.Event.TheVariants as events
use Rattle.col_core.specs.History.{entries, open_count, line, IsAtEnd}
use Rattle.col_core.specs.Cuts.{base}
use Rattle.col_core.specs.Computed.{dated}
use Rattle.col_core.specs.Log.{HasOutcome}
use Rattle.col_core.specs.Appending.{EndsAtColour}
use Rattle.col_core.specs.Keeping.{Kept, kept_after_single, kept_after_look, kept_after_sync, kept_after_event, with_made, with_floor, with_row}
use Rattle.script_text.specs.declared.commands.What.{What}
use Rattle.script_text.specs.declared.commands.What.TheVariants as whats
use Rattle.report_text.specs.declared.report.Answer.TheVariants as answers
use Rattle.report_text.specs.declared.report.PointPiece.{PointPiece}
use Rattle.lawful_run.specs.Callers.{Caller, node_of}
use Rattle.lawful_run.specs.Asks.{Appending, tells_stamp_end}
use Rattle.lawful_run.specs.Deeds.{AsksToAppend, manner_of}
use Rattle.lawful_run.specs.Appends.{kept_after_points}
use Rattle.lawful_run.specs.Reads.{greatest_stamp}
use Rattle.lawful_run.specs.Moves.{OnlyGives, kept_after_pull, kept_after_giving}
use Rattle.lawful_run.specs.Explains.{Explains}
use Rattle.client_law.specs.Knowing.{Seen, Rest, log_seen, SeesOn}
use Rattle.client_law.specs.Kept.{IsKeptBy}
use Rattle.client_law.specs.Appends.{SeesOne, steps_since, SeesBegun, SeesSeveral, SeesSettled, SeesStop}
use Rattle.client_law.specs.Moves.{home_dated, LooksThere, PlaysThere, PullsThere}

-- what is kept after an append to several colours that is gone or has stopped
abbrev pub kept_after_steps : Caller → Seen → Seen → Kept → Kept
kept_after_steps caller old new kept = with_made (with_row kept) caller.own (steps_since caller old new)

-- what is kept after an append that stands at the points
abbrev pub kept_after_standing : Caller → Seen → Seen → Kept → ℕ → List PointPiece → Kept
kept_after_standing caller old new kept stamp points =
    with_made (with_row (with_floor (kept_after_points kept caller.own points) stamp)) caller.own
    (steps_since caller old new)

-- A client that has seen so much, and keeps what it has seen, asks for an append of a node.
pub record AppendIsAsked (old new : Seen) (caller : Caller) (kept : Kept) (what : What) (colours : Colours)
    (text : List ℕ) : Type 0 where
  pub on : SeesOn caller old new
  pub keeps : IsKeptBy old caller kept
  pub asks : AsksToAppend caller kept what colours text

-- The reply to an append that stands in one colour: its stamp, and its point.
abbrev pub StoodAlone : Type 0
StoodAlone = (old new : Seen) (rest : Rest) (caller : Caller) (kept : Kept) (what : What) (colours : Colours)
    (text : List ℕ) (colour stamp place position : ℕ) → AppendIsAsked old new caller kept what colours text
    → manner_of what ≡ Appending → members colours ≡ colour ∷ []
    → SeesOne old new rest caller kept (node_of caller kept colours text) colour stamp place position
    → Explains (log_seen new rest) caller kept what
    (answers.Stood stamp None (record { colour = colour; at = Event place; position = position } ∷ [])) []
    (kept_after_single kept caller.own colour place stamp position)

-- The reply to an append that finds nothing between: right before its single no entry was open, and the line was as long as
-- the client has played.
abbrev pub StoodNext : Type 0
StoodNext = (old new : Seen) (rest : Rest) (caller : Caller) (kept : Kept) (colours : Colours) (text : List ℕ)
    (colour stamp place position : ℕ) → AppendIsAsked old new caller kept (whats.Only colour text) colours text
    → members colours ≡ colour ∷ []
    → SeesOne old new rest caller kept (node_of caller kept colours text) colour stamp place position
    → position ≡ length (line (take place (new caller.own colour)))
    → open_count (entries (take place (new caller.own colour))) ≡ 0
    → position ≡ at (kept.starts colour) caller.own
    → Explains (log_seen new rest) caller kept (whats.Only colour text)
    (answers.Stood stamp None (record { colour = colour; at = Event place; position = position } ∷ [])) []
    (kept_after_single kept caller.own colour place stamp position)

-- The reply to one that finds something between: how long the line is that is seen now, and how many entries are open there.
abbrev pub MovedOn : Type 0
MovedOn = (old new : Seen) (rest : Rest) (caller : Caller) (kept : Kept) (colour : ℕ) (text : List ℕ)
    → SeesOn caller old new → IsKeptBy old caller kept
    → (open_count (entries (new caller.own colour)) ≢ 0)
    ⊎ (length (line (new caller.own colour)) ≢ at (kept.starts colour) caller.own)
    → Explains (log_seen new rest) caller kept (whats.Only colour text)
    (answers.Moved (length (line (new caller.own colour))) (open_count (entries (new caller.own colour))) colour
    (length (new caller.own colour))) []
    (kept_after_look kept caller.own colour (length (new caller.own colour)))

-- The reply to an append that stands in several colours: its stamp, its row, and its points.
abbrev pub StoodInAll : Type 0
StoodInAll = (old new : Seen) (rest : Rest) (caller : Caller) (kept : Kept) (what : What) (colours : Colours)
    (text : List ℕ) (stamp : ℕ) (points : List PointPiece) → AppendIsAsked old new caller kept what colours text
    → manner_of what ≡ Appending
    → SeesSeveral old new rest caller kept (node_of caller kept colours text) stamp points
    → Explains (log_seen new rest) caller kept what (answers.Stood stamp (Some kept.rows) points) []
    (kept_after_standing caller old new kept stamp points)

-- The reply to an append to one colour for which no stamp was left: the colour.
abbrev pub EndedAlone : Type 0
EndedAlone = (old new : Seen) (rest : Rest) (caller : Caller) (kept : Kept) (what : What) (colours : Colours)
    (text : List ℕ) (colour : ℕ) → AppendIsAsked old new caller kept what colours text
    → IsTrue (tells_stamp_end (manner_of what)) → members colours ≡ colour ∷ [] → IsAtEnd (new caller.own colour) kept.floor
    → Explains (log_seen new rest) caller kept what (answers.StampEnd colour) [] kept

-- The reply to an append to several colours that is gone at the stamps' end: the least colour that had none left.
abbrev pub EndedInColour : Type 0
EndedInColour = (old new : Seen) (rest : Rest) (caller : Caller) (kept : Kept) (what : What) (colours : Colours)
    (text : List ℕ) (colour : ℕ) → AppendIsAsked old new caller kept what colours text
    → IsTrue (tells_stamp_end (manner_of what)) → SeesBegun old new rest caller kept (node_of caller kept colours text)
    → EndsAtColour (log_seen new rest) (node_of caller kept colours text) colour
    → SeesSettled new rest caller (node_of caller kept colours text)
    → Explains (log_seen new rest) caller kept what (answers.StampEnd colour) []
    (kept_after_steps caller old new kept)

-- The reply to an append to several colours that is gone for want of memory.
abbrev pub WentForMemory : Type 0
WentForMemory = (old new : Seen) (rest : Rest) (caller : Caller) (kept : Kept) (what : What) (colours : Colours)
    (text : List ℕ) → AppendIsAsked old new caller kept what colours text
    → SeesBegun old new rest caller kept (node_of caller kept colours text)
    → HasOutcome (log_seen new rest) (node_of caller kept colours text) (Gone Memory)
    → SeesSettled new rest caller (node_of caller kept colours text)
    → Explains (log_seen new rest) caller kept what answers.NoMemory [] (kept_after_steps caller old new kept)

-- The reply to an append that stopped after one step or more.
abbrev pub StoppedWithin : Type 0
StoppedWithin = (old new : Seen) (rest : Rest) (caller : Caller) (kept : Kept) (colours : Colours) (text : List ℕ)
    (steps : ℕ) → SeesOn caller old new → SeesBegun old new rest caller kept (node_of caller kept colours text)
    → SeesStop old new rest caller (node_of caller kept colours text) (steps + 1)
    → Explains (log_seen new rest) caller kept (whats.Stop (steps + 1) colours text) (answers.Stopped (steps + 1)) []
    (kept_after_steps caller old new kept)

-- The reply to a sync: its look, its snapshot, and the nodes that it played.
abbrev pub SyncedThere : Type 0
SyncedThere = (old new : Seen) (rest : Rest) (caller : Caller) (kept : Kept) (colour : ℕ) (snapshot : Counts)
    (nodes : List PlacedNode) → SeesOn caller old new → IsKeptBy old caller kept
    → LooksThere new caller kept colour snapshot → PlaysThere new rest caller kept colour snapshot nodes
    → Explains (log_seen new rest) caller kept (whats.Sync colour)
    (answers.Synced (record { colour = colour; events = length (new caller.own colour); counts = snapshot })
    (length nodes)) nodes
    (kept_after_sync kept caller.own colour (length (new caller.own colour)) snapshot (greatest_stamp nodes))

-- The reply to a sync of a client that lacks nodes which are trimmed: the base.
abbrev pub LackedThere : Type 0
LackedThere = (old new : Seen) (rest : Rest) (caller : Caller) (kept : Kept) (colour : ℕ) (shown : Counts)
    → SeesOn caller old new → IsKeptBy old caller kept
    → shown ≡ base caller.own caller.regions (home_dated new caller colour)
    → IsFalse (is_within shown (kept.starts colour))
    → Explains (log_seen new rest) caller kept (whats.Sync colour) (answers.Trimmed colour shown) [] kept

-- The reply to a pull: how many nodes it carried, its last give, and its carry.
abbrev pub PulledThere : Type 0
PulledThere = (old new : Seen) (rest : Rest) (caller : Caller) (kept : Kept) (region colour nodes place : ℕ)
    (carry : At) (too_low : List ℕ) → SeesOn caller old new → IsKeptBy old caller kept
    → PullsThere old new rest caller region colour nodes place carry too_low
    → Explains (log_seen new rest) caller kept (whats.Pull region colour) (answers.Pulled nodes (Event place) carry) []
    (kept_after_pull kept caller.own region colour place carry too_low)

-- The reply to a pull that found no memory, and carried nothing.
abbrev pub GaveForMemory : Type 0
GaveForMemory = (new : Seen) (rest : Rest) (caller : Caller) (kept : Kept) (region colour looked : ℕ)
    (too_low gives : List ℕ) → OnlyGives (log_seen new rest) caller kept region colour looked too_low gives
    → Explains (log_seen new rest) caller kept (whats.Pull region colour) answers.NoMemory []
    (kept_after_giving kept caller.own region colour looked too_low gives)

-- The reply to a trim by the client's last snapshot: the event, and the base after it.
abbrev pub TrimmedTo : Type 0
TrimmedTo = (old new : Seen) (rest : Rest) (caller : Caller) (kept : Kept) (colour place : ℕ) (shown : Counts)
    → SeesOn caller old new → IsKeptBy old caller kept → length (old caller.own colour) ≤ place
    → slice_get (new caller.own colour) place
    ≡ Some (record { by = caller.client; event = events.Trim (kept.starts colour); stamp = 0 })
    → shown ≡ base caller.own caller.regions (dated caller.own (take (place + 1) (new caller.own colour)))
    → Explains (log_seen new rest) caller kept (whats.Trim colour) (answers.Based (Event place) shown) []
    (kept_after_event kept caller.own colour place)
