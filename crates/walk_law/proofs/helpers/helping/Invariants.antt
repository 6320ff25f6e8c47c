use Rattle.std.proofs.Common.{◌≡◌, ◌<◌, ℕ, length, false}
use Rattle.std.specs.Prelude.{slice_index_or}
use Rattle.lawful_run.specs.Lawful.{HasHelping}
use Rattle.column_track.specs.Tracks.{Tells}
use Rattle.walk_law.proofs.helpers.helping.Given as goal

-- of the clients so far
abbrev pub invariant-loop-client : goal.invariant-loop-client
invariant-loop-client l = (length l.helping.items ≡ l.client)
    × ((client : ℕ) → client < l.client → Tells (slice_index_or l.helping.items client false) (HasHelping l.subject.script client))
