-- The base of a column after a number of its events.
use Rattle.std.specs.Prelude.{◌≡◌, ◌⊎◌, ℕ, ◌<◌, ◌≤◌, take}
use Rattle.log_node.specs.declared.ids.Counts.{Counts}
use Rattle.log_node.specs.Vectors.{IsWithin}
use Rattle.col_core.specs.Cuts.{base}
use Rattle.col_core.specs.Computed.{dated}
use Rattle.column_track.specs.Tracks.{Tracked}

-- after so many events
abbrev pub base_after : Tracked → ℕ → Counts
base_after track events = base track.region track.regions (dated track.region (take events track.journal))

-- after some number of events, from this one to that, it was this one
abbrev pub WasBase : Tracked → ℕ → ℕ → Counts → Type 0
WasBase track from to shown = (events : ℕ) × (from ≤ events) × (events ≤ to) × (base_after track events ≡ shown)

-- Of the numbers of events from one to another this is the first after which a vector is within the base, or the last of all.
pub record IsFirstBase (track : Tracked) (from to : ℕ) (shown : Counts) (events : ℕ) : Type 0 where
  pub from_on : from ≤ events
  pub up_to : events ≤ to
  pub before : (n : ℕ) → from ≤ n → n < events → IsWithin shown (base_after track n) → ⊥
  pub there : IsWithin shown (base_after track events) ⊎ (events ≡ to)
