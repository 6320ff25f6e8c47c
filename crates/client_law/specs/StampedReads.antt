-- Stamped reads, from what a client has seen after each of its raises and syncs.
use Rattle.std.specs.Prelude.{◌≡◌, ◌⊎◌, ℕ, ◌≤◌, List, [], ◌∷◌, ◌++◌, length, map, take, Some, slice_get}
use Rattle.std.specs.List.{All, Contains}
use Rattle.log_node.specs.declared.node.At.{At}
use Rattle.log_node.specs.declared.node.At.TheVariants.{Event, Look}
use Rattle.col_core.specs.declared.Event.TheVariants.{Raise}
use Rattle.col_core.specs.History.{clock}
use Rattle.col_core.specs.RegionOrder.{IsClearUpTo}
use Rattle.col_core.specs.Keeping.{Kept, with_floor}
use Rattle.report_text.specs.declared.report.RaisePiece.{RaisePiece}
use Rattle.report_text.specs.declared.report.SyncPiece.{SyncPiece}
use Rattle.lawful_run.specs.Callers.{Caller}
use Rattle.lawful_run.specs.Reads.{Syncs, kept_after_piece, RaisesClock, kept_after_place, Raises, ClearSyncs, events_until, ReadsAt}
use Rattle.client_law.specs.Knowing.{Seen, Rest, log_seen, SeesOn}
use Rattle.client_law.specs.Kept.{IsKeptBy}

-- The clock is raised to the stamp by the client's event, which was not seen before, or it is there already at a look.
abbrev pub RaisesThere : Seen → Seen → Caller → ℕ → ℕ → At → Type 0
RaisesThere old new caller stamp colour (Event place) =
    (length (old caller.own colour) ≤ place)
    × (slice_get (new caller.own colour) place
    ≡ Some (record { by = caller.client; event = Raise stamp; stamp = 0 }))
RaisesThere old new caller stamp colour (Look seen) =
    (length (old caller.own colour) ≤ seen) × (seen ≤ length (new caller.own colour))
    × (stamp ≤ clock (take seen (new caller.own colour)))

-- Such a raise is one of a stamped read in the log that is seen.
abbrev pub RaiseStands : Type 0
RaiseStands = (old new : Seen) (rest : Rest) (caller : Caller) (kept : Kept) (stamp colour : ℕ) (at : At)
    → SeesOn caller old new → IsKeptBy old caller kept → RaisesThere old new caller stamp colour at
    → RaisesClock (log_seen new rest) caller kept stamp colour at

-- One raise more: what was seen before explains the earlier ones.
abbrev pub RaisesOn : Type 0
RaisesOn = (old new : Seen) (rest : Rest) (caller : Caller) (stamp : ℕ) (kept middle : Kept)
    (raises : List RaisePiece) (raise : RaisePiece)
    → SeesOn caller old new → Raises (log_seen old rest) caller stamp kept raises middle
    → RaisesClock (log_seen new rest) caller middle stamp raise.colour raise.at
    → Raises (log_seen new rest) caller stamp kept (raises ++ raise ∷ [])
    (kept_after_place middle caller.own raise.colour raise.at)

-- One sync more, after which no open entry up to the stamp is left.
abbrev pub ClearSyncsOn : Type 0
ClearSyncsOn = (old new : Seen) (rest : Rest) (caller : Caller) (stamp : ℕ) (kept middle : Kept)
    (syncs : List SyncPiece) (sync : SyncPiece)
    → SeesOn caller old new → ClearSyncs (log_seen old rest) caller stamp kept syncs middle
    → Syncs (log_seen new rest) caller middle sync.colour sync.events sync.counts
    → IsClearUpTo stamp (take sync.events (new caller.own sync.colour))
    → ClearSyncs (log_seen new rest) caller stamp kept (syncs ++ sync ∷ [])
    (kept_after_piece (log_seen new rest) caller middle sync)

-- the read's stamp: the floor, or a clock that was looked at before its column's raise
abbrev pub IsStampThere : Seen → Seen → Caller → Kept → List RaisePiece → ℕ → Type 0
IsStampThere old new caller kept raises stamp =
    (stamp ≡ kept.floor)
    ⊎ ((raise : RaisePiece) × Contains raises raise
    × (events : ℕ) × (length (old caller.own raise.colour) ≤ events) × (events ≤ events_until raise.at)
    × (stamp ≡ clock (take events (new caller.own raise.colour))))

-- A stamped read: what was seen before it, after its raises, and after its syncs.
pub record ReadsThere (old middle new : Seen) (rest : Rest) (caller : Caller) (kept raised synced : Kept)
    (colours : List ℕ) (stamp : ℕ) (raises : List RaisePiece) (syncs : List SyncPiece) : Type 0 where
  pub raised_colours : map (λ (r : RaisePiece). r.colour) raises ≡ colours
  pub synced_colours : map (λ (s : SyncPiece). s.colour) syncs ≡ colours
  pub above_floor : kept.floor ≤ stamp
  pub above_clocks : All (λ colour. clock (old caller.own colour) ≤ stamp) colours
  pub chosen : IsStampThere old new caller kept raises stamp
  pub raising : Raises (log_seen middle rest) caller stamp kept raises raised
  pub syncing : ClearSyncs (log_seen new rest) caller stamp raised syncs synced

-- Such a read is a stamped read in the log that is seen; the floor is then at its stamp or above.
abbrev pub ReadsStand : Type 0
ReadsStand = (old middle new : Seen) (rest : Rest) (caller : Caller) (kept raised synced : Kept) (colours : List ℕ)
    (stamp : ℕ) (raises : List RaisePiece) (syncs : List SyncPiece)
    → SeesOn caller old middle → SeesOn caller middle new → IsKeptBy old caller kept
    → ReadsThere old middle new rest caller kept raised synced colours stamp raises syncs
    → ReadsAt (log_seen new rest) caller kept colours stamp raises syncs (with_floor synced stamp)

-- What is kept with a greater floor.
abbrev pub KeptWithFloor : Type 0
KeptWithFloor = (seen : Seen) (caller : Caller) (kept : Kept) (stamp : ℕ) → IsKeptBy seen caller kept
    → IsKeptBy seen caller (with_floor kept stamp)
