-- What the calls of a world answer, and the replies of its steps that these are.
use Rattle.std.specs.Prelude.{ℕ, Option, None, Some}
use Rattle.log_node.specs.declared.ids.Counts.{Counts}
use Rattle.log_node.specs.declared.node.At.{At}
use Rattle.log_node.specs.declared.node.At.TheVariants as ats
use Rattle.log_node.specs.declared.marks.Mark.{Mark}
use Rattle.log_node.specs.declared.marks.Outcome.{Outcome}
use Rattle.log_node.specs.declared.marks.Outcome.TheVariants.{Open, Gone, Final}
use Rattle.world_laws.specs.declared.steps.Reply.{Reply}
use Rattle.world_laws.specs.declared.steps.Reply.TheVariants as replies
use Rattle.world_code.specs.declared.replies.Placed.{Placed}
use Rattle.world_code.specs.declared.replies.NewRow.{NewRow}

-- the reply of a step that enters a node
abbrev pub placed_reply : Option Placed → Reply
placed_reply None = replies.Nothing
placed_reply (Some p) = replies.Event p.place p.stamp

-- the reply of a step that adds an event without a stamp at this place
abbrev pub place_reply : Option ℕ → Reply
place_reply None = replies.Nothing
place_reply (Some place) = replies.Event place 0

-- the reply of a step that begins a row
abbrev pub begun_reply : Option NewRow → Reply
begun_reply None = replies.Nothing
begun_reply (Some r) = replies.Begun r.row r.id

-- the reply of a step that sets a mark
abbrev pub marked_reply : Option Mark → Reply
marked_reply None = replies.Nothing
marked_reply (Some mark) = replies.Marked mark

-- the reply of a step that decides a row
abbrev pub decided_reply : Option Outcome → Reply
decided_reply None = replies.Nothing
decided_reply (Some outcome) = replies.Decided outcome

-- the reply of a step by which a client plays
abbrev pub played_reply : Option Counts → Reply
played_reply None = replies.Nothing
played_reply (Some cut) = replies.Played cut

-- the number of events before this one, or before this look
abbrev pub number_of : At → ℕ
number_of (ats.Event place) = place
number_of (ats.Look events) = events

-- the place of the event, if it is one
abbrev pub event_at : At → Option ℕ
event_at (ats.Event place) = Some place
event_at (ats.Look events) = None

-- the outcome, if one is told
abbrev pub decided_outcome : Outcome → Option Outcome
decided_outcome Open = None
decided_outcome (Gone why) = Some (Gone why)
decided_outcome (Final stamp) = Some (Final stamp)
