-- What a pull and a trim say of the log.
use Rattle.std.specs.Prelude.{◌≡◌, ◌≢◌, ℕ, ◌+◌, ◌<◌, ◌≤◌, min, List, ◌++◌, length, take, Some, slice_get}
use Rattle.std.specs.List.{All}
use Rattle.log_node.specs.declared.ids.Counts.{Counts}
use Rattle.log_node.specs.declared.node.At.{At}
use Rattle.log_node.specs.declared.node.At.TheVariants.{Event, Look}
use Rattle.log_node.specs.declared.node.Head.{Head}
use Rattle.log_node.specs.Vectors.{at}
use Rattle.col_core.specs.declared.Event.TheVariants as events
use Rattle.col_core.specs.History.{line}
use Rattle.col_core.specs.Cuts.{chain, base}
use Rattle.col_core.specs.Log.{Log, first}
use Rattle.col_core.specs.Keeping.{Kept, updated_at, kept_after_event, kept_after_look, seen_after, seen_past}
use Rattle.lawful_run.specs.Callers.{Caller}
use Rattle.lawful_run.specs.Reads.{kept_after_place, events_until}

-- the client gave, at the place, the other region's line from this number on to its own region
abbrev pub GivesFrom : Log → Caller → ℕ → ℕ → ℕ → ℕ → Type 0
GivesFrom log caller region colour place from =
    slice_get (log.histories region colour) place
    ≡ Some (record { by = caller.client; event = events.Give caller.own from; stamp = 0 })

-- A give at the place asks for this number: as many nodes as the client's own column held of the other region's line when
-- the client looked, after some number of events from the one to the other; or the line's length at the give, if less.
abbrev pub AsksFor : Log → Caller → ℕ → ℕ → ℕ → ℕ → ℕ → ℕ → Type 0
AsksFor log caller region colour seen until place from =
    (looked : ℕ) × (seen ≤ looked) × (looked ≤ until)
    × (from ≡ min (length (line (take place (log.histories region colour))))
    (length (chain caller.own (first log caller.own colour looked) region)))

-- a give of what was held at a look at so many events or more of the client's own column, and at most so many
abbrev pub GivesHeld : Log → Caller → ℕ → ℕ → ℕ → ℕ → ℕ → Type 0
GivesHeld log caller region colour seen until place =
    (from : ℕ) × GivesFrom log caller region colour place from
    × AsksFor log caller region colour seen until place from

-- a give of a pull that was made again, since what it asked for was trimmed: its number was below the base by then
abbrev pub GivesTooLow : Log → Caller → ℕ → ℕ → ℕ → ℕ → ℕ → Type 0
GivesTooLow log caller region colour seen until place =
    (from : ℕ) × GivesFrom log caller region colour place from
    × AsksFor log caller region colour seen until place from
    × (from < at (base region caller.regions (first log region colour place)) region)

-- The client carried so many nodes of the other region, by an event at a place that was not seen before; or none, when
-- it had looked at so many events.
abbrev pub CarriesNodes : Log → Caller → Kept → ℕ → ℕ → ℕ → At → Type 0
CarriesNodes log caller kept region colour nodes (Event place) =
    (kept.seen caller.own colour ≤ place)
    × (start : ℕ) × (heads : List Head)
    × (slice_get (log.histories caller.own colour) place
    ≡ Some (record { by = caller.client; event = events.Carry region start heads; stamp = 0 }))
    × (nodes ≡ length heads)
CarriesNodes log caller kept region colour nodes (Look events) =
    (kept.seen caller.own colour ≤ events) × (events ≤ length (log.histories caller.own colour)) × (nodes ≡ 0)

-- A pull: a give at a place that was not seen before, from what was held at a look between what the client had seen and
-- the carry; then the carry, after which all is held that stood in the line at the give.
pub record Pulls (log : Log) (caller : Caller) (kept : Kept) (region colour nodes place : ℕ) (carry : At)
    (too_low : List ℕ) : Type 0 where
  pub another : region ≢ caller.own
  pub made_again : All (GivesTooLow log caller region colour (kept.seen caller.own colour) (events_until carry)) too_low
  pub unseen : kept.seen region colour ≤ place
  pub from : ℕ
  pub gives : GivesFrom log caller region colour place from
  pub asks : AsksFor log caller region colour (kept.seen caller.own colour) (events_until carry) place from
  pub carries : CarriesNodes log caller kept region colour nodes carry
  pub holds : length (line (take place (log.histories region colour)))
      ≤ length (chain caller.own (first log caller.own colour (seen_after carry)) region)

-- with events made, and so seen, at these places of a column
abbrev pub with_places : Kept → ℕ → ℕ → List ℕ → Kept
with_places kept region colour places = record kept {
  seen = updated_at kept.seen region colour (seen_past (kept.seen region colour) places);
  made = updated_at kept.made region colour (kept.made region colour ++ places);
}

-- what a client keeps after a pull
abbrev pub kept_after_pull : Kept → ℕ → ℕ → ℕ → ℕ → At → List ℕ → Kept
kept_after_pull kept own region colour place carry too_low =
    kept_after_place (kept_after_event (with_places kept region colour too_low) region colour place) own colour carry

-- A pull that carried nothing, for want of memory: gives from too low a number, and then at most one more. It looked at so
-- many events of its own column, no fewer than were seen.
pub record OnlyGives (log : Log) (caller : Caller) (kept : Kept) (region colour looked : ℕ)
    (too_low gives : List ℕ) : Type 0 where
  pub another : region ≢ caller.own
  pub unseen : kept.seen caller.own colour ≤ looked
  pub there : looked ≤ length (log.histories caller.own colour)
  pub made_again : All (GivesTooLow log caller region colour (kept.seen caller.own colour) looked) too_low
  pub once : length gives ≤ 1
  pub given : All (GivesHeld log caller region colour (kept.seen caller.own colour) looked) gives

-- what a client keeps after it
abbrev pub kept_after_giving : Kept → ℕ → ℕ → ℕ → ℕ → List ℕ → List ℕ → Kept
kept_after_giving kept own region colour looked too_low gives =
    kept_after_look (with_places (with_places kept region colour too_low) region colour gives) own colour looked

-- A trim by these counts, at a place that was not seen before; the base afterwards is this one.
pub record TrimsBy (log : Log) (caller : Caller) (kept : Kept) (colour place : ℕ) (counts shown : Counts) : Type 0 where
  pub unseen : kept.seen caller.own colour ≤ place
  pub trimmed : slice_get (log.histories caller.own colour) place
      ≡ Some (record { by = caller.client; event = events.Trim counts; stamp = 0 })
  pub is_base : shown ≡ base caller.own caller.regions (first log caller.own colour (place + 1))

-- a trim by the client's last snapshot
abbrev pub Trims : Log → Caller → Kept → ℕ → ℕ → Counts → Type 0
Trims log caller kept colour place shown = TrimsBy log caller kept colour place (kept.starts colour) shown
