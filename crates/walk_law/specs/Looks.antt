-- What is looked up of columns between events, and of single events.
use Rattle.std.specs.Prelude.{◌≡◌, Bool, true, false, ℕ, ◌==◌, ◌&&◌, ◌<◌, ◌≤◌, List, length, Option, Some, None, take, if◌then◌else◌}
use Rattle.log_node.specs.declared.ids.Counts.{Counts}
use Rattle.log_node.specs.Vectors.{IsWithin, at}
use Rattle.col_core.specs.declared.Entry.{Entry}
use Rattle.col_core.specs.declared.Event.{Event}
use Rattle.col_core.specs.History.{clock}
use Rattle.column_track.specs.declared.marks.Mark.{Mark}
use Rattle.report_text.specs.declared.report.SyncPiece.{SyncPiece}
use Rattle.walk_law.specs.Keepings.{IsCell}
use Rattle.walk_law.specs.Walking.{Walked}

-- the column is one of the shape
abbrev pub IsOfShape : Walked → ℕ → ℕ → Type 0
IsOfShape walked region colour =
    (region < walked.script.shape.regions) × (colour < walked.script.shape.colours) × IsCell region colour

-- it is, or it is not
abbrev pub IsInShape : Walked → ℕ → ℕ → Bool → Type 0
IsInShape walked region colour true = IsOfShape walked region colour
IsInShape walked region colour false = region < walked.script.shape.regions → colour < walked.script.shape.colours → ⊥

-- The sync looked no earlier than at what was seen, when this held of the column: its snapshot is the cut, no less of the own line
-- than was known to stand, and nothing that was not played was trimmed.
abbrev pub IsSyncedAt : ℕ → ℕ → ℕ → Counts → Mark → SyncPiece → Type 0
IsSyncedAt own seen known start mark sync =
    (seen ≤ sync.events) × (known ≤ at sync.counts own) × (sync.counts ≡ mark.cut) × IsWithin mark.base start

-- the clock was the stamp after some number of events, from this one to that, where a history has no more than all
abbrev pub HadClock : List Entry → ℕ → ℕ → ℕ → Type 0
HadClock history from to stamp = (n : ℕ) × (from ≤ n) × (n ≤ to) × (stamp ≡ clock (take n history))

-- so many events are there, and the clock after them is within the stamp
abbrev pub IsClockWithin : List Entry → ℕ → ℕ → Type 0
IsClockWithin history events stamp = (events ≤ length history) × (clock (take events history) ≤ stamp)

-- the event that a client made, where it gave no stamp
abbrev pub event_by : ℕ → Option Entry → Option Event
event_by client None = None
event_by client (Some e) = if (e.by == client) && (e.stamp == 0) then Some e.event else None
