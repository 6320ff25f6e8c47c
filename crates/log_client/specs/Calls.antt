-- What a client's calls answer, and what explains it.
use Rattle.std.specs.Prelude.{◌≡◌, ◌≢◌, ◌⊎◌, ℕ, List, ◌++◌, length, drop}
use Rattle.std.specs.List.{All}
use Rattle.log_node.specs.declared.ids.Counts.{Counts}
use Rattle.log_node.specs.declared.node.At.{At}
use Rattle.log_node.specs.declared.node.At.TheVariants.{Event}
use Rattle.log_node.specs.Seen.{PlacedNode}
use Rattle.col_core.specs.Log.{Log}
use Rattle.col_core.specs.Keeping.{Kept, kept_after_sync, kept_after_event}
use Rattle.script_text.specs.declared.script.Object.{Object}
use Rattle.lawful_run.specs.Callers.{Caller}
use Rattle.lawful_run.specs.Reads.{Syncs, ShowsPlayed, IsTrimmed, RaisesClock, greatest_stamp, kept_after_place}
use Rattle.lawful_run.specs.Moves.{Pulls, OnlyGives, TrimsBy, kept_after_pull, kept_after_giving}
use Rattle.client_law.specs.Knowing.{Rest, log_seen}
use Rattle.playback.specs.declared.player.Snapshot.{Snapshot}
use Rattle.region_pull.specs.declared.pulled.Pulled.{Pulled}
use Rattle.region_pull.specs.declared.pulled.PullFault.{PullFault}
use Rattle.region_pull.specs.declared.pulled.PullFault.TheVariants as pull_faults
use Rattle.log_client.specs.declared.store.Store.{Store}
use Rattle.log_client.specs.declared.client.Client.{Client}
use Rattle.log_client.specs.declared.answers.Synced.{Synced}
use Rattle.log_client.specs.declared.faults.SyncFault.{SyncFault}
use Rattle.log_client.specs.declared.faults.SyncFault.TheVariants as sync_faults
use Rattle.log_client.specs.declared.faults.TrimFault.{TrimFault}
use Rattle.log_client.specs.declared.faults.TrimFault.TheVariants as trim_faults
use Rattle.log_client.specs.Fits.{FitsHolds}
use Rattle.log_client.specs.Clients.{holds_of, seen_of, played_of, caller_of, Keeps, Finished}

-- The call from c to d is explained: whatever a finished client kept before it, it keeps something after it with which the
-- record holds of the log that it has then seen, beside whatever nodes and rows fit what it then knows.
abbrev pub IsExplained : Store → Client → Client → (Log → Caller → Kept → Kept → Type 0) → Type 0
IsExplained s c d Record =
    (objects : List Object) (kept : Kept) → Finished c → Keeps s c objects kept
    → (after : Kept) × Keeps s d objects after
    × ((rest : Rest) → FitsHolds (holds_of d) rest → Record (log_seen (seen_of d) rest) (caller_of s d objects) kept after)

-- It is the same client of the same region.
abbrev pub IsSame : Client → Client → Type 0
IsSame c d = (d.number ≡ c.number) × (d.region ≡ c.region)

-- A call that did nothing which an answer would tell.
abbrev pub DidNothing : Store → Client → Client → Type 0
DidNothing s c d = IsExplained s c d (λ log caller kept after. after ≡ kept)

-- SYNCS

-- what a sync played: the stretch that the answer names of what the client has played since
abbrev pub nodes_played : Client → ℕ → Synced → List PlacedNode
nodes_played d colour y = drop y.first (played_of d colour)

-- The sync looked at all events that it answers, and played the stretch of the nodes up to its snapshot.
abbrev pub SyncsAs : Client → ℕ → Synced → Log → Caller → Kept → Kept → Type 0
SyncsAs d colour y log caller kept after =
    Syncs log caller kept colour y.events y.snapshot.counts
    × ShowsPlayed log caller kept colour y.events y.snapshot.counts (nodes_played d colour y)
    × (after ≡ kept_after_sync kept caller.own colour y.events y.snapshot.counts
    (greatest_stamp (nodes_played d colour y)))

-- the answer names a stretch at the end of what was played, and the new snapshot
pub record AnswersSync (c d : Client) (colour : ℕ) (y : Synced) : Type 0 where
  pub first : y.first ≡ length (played_of c colour)
  pub older : (nodes : List PlacedNode) × (played_of d colour ≡ played_of c colour ++ nodes) × (y.count ≡ length nodes)
  pub snapshot : y.snapshot ≡ record { region = c.region; colour = colour; counts = y.snapshot.counts }

-- each answer of several syncs, of a colour each, names what the client played from c to d of its colour
abbrev pub AnswersEach : Client → Client → List Synced → Type 0
AnswersEach c d syncs = All (λ (y : Synced). AnswersSync c d y.snapshot.colour y) syncs

-- Why a sync played nothing: nodes that were not played are trimmed, as the base shows; or memory was refused.
abbrev pub SyncRefused : Store → Client → Client → ℕ → SyncFault → Type 0
SyncRefused s c d colour (sync_faults.Trimmed shown base) =
    (shown ≡ colour)
    × IsExplained s c d (λ log caller kept after. IsTrimmed log caller kept colour base × (after ≡ kept))
SyncRefused s c d colour sync_faults.NoMemory = DidNothing s c d

-- RAISES

-- The raise of the clock to the stamp is the client's event at the place, or the clock is there after so many events.
abbrev pub RaisesAs : ℕ → ℕ → At → Log → Caller → Kept → Kept → Type 0
RaisesAs stamp colour at log caller kept after =
    RaisesClock log caller kept stamp colour at × (after ≡ kept_after_place kept caller.own colour at)

-- MOVES

-- The trim by these counts, at the place, answered the base.
abbrev pub TrimsAs : ℕ → Counts → At → Counts → Log → Caller → Kept → Kept → Type 0
TrimsAs colour counts at base log caller kept after =
    (place : ℕ) × (at ≡ Event place) × TrimsBy log caller kept colour place counts base
    × (after ≡ kept_after_event kept caller.own colour place)

-- the snapshot is of the client's column of the colour
abbrev pub IsOfColumn : Client → ℕ → Snapshot → Type 0
IsOfColumn c colour snapshot = (snapshot.region ≡ c.region) × (snapshot.colour ≡ colour)

-- Why nothing was trimmed: the snapshot is of another column, and nothing was done; or memory was refused.
abbrev pub TrimRefused : Store → Client → Client → ℕ → Snapshot → TrimFault → Type 0
TrimRefused s c d colour snapshot (trim_faults.OtherColumn region other) =
    (region ≡ snapshot.region) × (other ≡ snapshot.colour) × ((region ≢ c.region) ⊎ (other ≢ colour)) × (d ≡ c)
TrimRefused s c d colour snapshot trim_faults.NoMemory = IsOfColumn c colour snapshot × DidNothing s c d

-- The pull gave at the place, after gives that were too low, and carried.
abbrev pub PullsAs : ℕ → ℕ → Pulled → Log → Caller → Kept → Kept → Type 0
PullsAs region colour p log caller kept after =
    (place : ℕ) × (too_low : List ℕ) × (p.give ≡ Event place)
    × Pulls log caller kept region colour p.nodes place p.carry too_low
    × (after ≡ kept_after_pull kept caller.own region colour place p.carry too_low)

-- Gives were made, and nothing was carried.
abbrev pub GaveAlone : ℕ → ℕ → Log → Caller → Kept → Kept → Type 0
GaveAlone region colour log caller kept after =
    (looked : ℕ) × (too_low gives : List ℕ) × OnlyGives log caller kept region colour looked too_low gives
    × (after ≡ kept_after_giving kept caller.own region colour looked too_low gives)

-- Why nothing was pulled: both regions are one, and nothing was done; or memory was refused, and only gives were made.
abbrev pub PullRefused : Store → Client → Client → ℕ → ℕ → PullFault → Type 0
PullRefused s c d region colour pull_faults.SameRegion = (region ≡ c.region) × (d ≡ c)
PullRefused s c d region colour pull_faults.NoMemory = (region ≢ c.region) × IsExplained s c d (GaveAlone region colour)
