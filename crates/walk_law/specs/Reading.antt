-- Parts of what syncs and stamped reads say of the log.
use Rattle.std.specs.Prelude.{◌≡◌, ℕ, ◌<◌, ◌≤◌, List, length, take}
use Rattle.std.specs.List.{All}
use Rattle.col_core.specs.History.{clock}
use Rattle.col_core.specs.Keeping.{Kept}
use Rattle.col_core.specs.Log.{Log}
use Rattle.col_core.specs.RegionOrder.{IsClearUpTo}
use Rattle.script_text.specs.declared.script.Script.{Script}
use Rattle.report_text.specs.declared.report.RaisePiece.{RaisePiece}
use Rattle.report_text.specs.declared.report.SyncPiece.{SyncPiece}
use Rattle.lawful_run.specs.Callers.{Caller}
use Rattle.lawful_run.specs.Reads.{events_until}
use Rattle.run_rules.specs.Shown.{SyncsAsTold}

-- the colours of these are of the shape
abbrev pub AreBelow : {X : Type 0} → Script → (X → ℕ) → List X → Type 0
AreBelow script colour_of items = All (λ x. colour_of x < script.shape.colours) items

-- a sync behind which no open entry up to the stamp was left
abbrev pub IsClearSync : Log → Caller → ℕ → Kept → SyncPiece → Type 0
IsClearSync log caller stamp kept sync =
    SyncsAsTold log caller kept sync × IsClearUpTo stamp (take sync.events (log.histories caller.own sync.colour))

-- the stamp is not below what was seen of the clock of the colour
abbrev pub IsAboveClock : Log → Caller → Kept → ℕ → ℕ → Type 0
IsAboveClock log caller kept stamp colour =
    (kept.seen caller.own colour ≤ length (log.histories caller.own colour))
    × (clock (take (kept.seen caller.own colour) (log.histories caller.own colour)) ≤ stamp)

-- it was the clock of a raise's column after some number of events, from what was seen to the raise
abbrev pub WasClockOf : Log → Caller → Kept → ℕ → RaisePiece → Type 0
WasClockOf log caller kept stamp raise =
    (events : ℕ) × (kept.seen caller.own raise.colour ≤ events) × (events ≤ events_until raise.at)
    × (stamp ≡ clock (take events (log.histories caller.own raise.colour)))
