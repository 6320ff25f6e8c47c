-- Which events and looks an answer names, each of them behind what its client had seen.
use Rattle.std.specs.Prelude.{◌≡◌, IsTrue, ℕ, zero, suc, ◌≤◌, List, [], ◌∷◌, length, take, Option, Some, None, slice_get}
use Rattle.std.specs.List.{All}
use Rattle.log_node.specs.declared.node.At.{At}
use Rattle.log_node.specs.declared.node.At.TheVariants.{Event, Look}
use Rattle.log_node.specs.Vectors.{at}
use Rattle.col_core.specs.declared.Event as events
use Rattle.col_core.specs.declared.Event.TheVariants.{Single, Propose, Raise, Give, Carry, Trim}
use Rattle.col_core.specs.declared.Entry.{Entry}
use Rattle.col_core.specs.History.{line}
use Rattle.col_core.specs.Ids.{IsStepOf}
use Rattle.col_core.specs.Log.{Log}
use Rattle.col_core.specs.Keeping.{Kept}
use Rattle.script_text.specs.declared.commands.What.{What}
use Rattle.script_text.specs.declared.commands.What.TheVariants as whats
use Rattle.report_text.specs.declared.report.Answer.{Answer}
use Rattle.report_text.specs.declared.report.Answer.TheVariants as answers
use Rattle.report_text.specs.declared.report.Ended.{Ended}
use Rattle.report_text.specs.declared.report.Ended.TheVariants as ends
use Rattle.report_text.specs.declared.report.PointPiece.{PointPiece}
use Rattle.report_text.specs.declared.report.RaisePiece.{RaisePiece}
use Rattle.report_text.specs.declared.report.SyncPiece.{SyncPiece}
use Rattle.lawful_run.specs.Callers.{Caller}
use Rattle.lawful_run.specs.Reads.{events_until, kept_after_place, kept_after_piece}
use Rattle.run_rules.specs.Told.{Untold, is_several, stamp_told, kept_after_append, kept_after_raises, kept_deciding}

-- an id of this client enters
abbrev pub EntersOf : ℕ → events.Event → Type 0
EntersOf client (Single id floor wants) = id.client ≡ client
EntersOf client (Propose id floor wants) = id.client ≡ client
EntersOf client _ = ⊥

abbrev pub IsRaise : events.Event → Type 0
IsRaise (Raise to) = Unit {0}
IsRaise _ = ⊥

-- it gives to this region
abbrev pub GivesTo : ℕ → events.Event → Type 0
GivesTo region (Give other from) = other ≡ region
GivesTo region _ = ⊥

-- it carries nodes of this region
abbrev pub CarriesOf : ℕ → events.Event → Type 0
CarriesOf region (Carry other start heads) = other ≡ region
CarriesOf region _ = ⊥

abbrev pub IsTrim : events.Event → Type 0
IsTrim (Trim counts) = Unit {0}
IsTrim _ = ⊥

-- at the place is an event of this client, of such a kind
abbrev pub Has : ℕ → List Entry → (events.Event → Type 0) → ℕ → Type 0
Has client history IsSuch place = (e : Entry) × (slice_get history place ≡ Some e) × (e.by ≡ client) × IsSuch e.event

-- a look at so many events, no fewer than were seen
abbrev pub NamesLook : Log → Kept → ℕ → ℕ → ℕ → Type 0
NamesLook log kept region colour events =
    (kept.seen region colour ≤ events) × (events ≤ length (log.histories region colour))

-- an event of such a kind by the client itself, which was not seen before; or a look
abbrev pub NamesPlace : Log → Caller → Kept → ℕ → ℕ → (events.Event → Type 0) → At → Type 0
NamesPlace log caller kept region colour IsSuch (Event place) =
    (kept.seen region colour ≤ place) × Has caller.client (log.histories region colour) IsSuch place
NamesPlace log caller kept region colour IsSuch (Look events) = NamesLook log kept region colour events

-- a point: where an id of the client's entered, and a position behind all that it knew to stand there
abbrev pub NamesPoint : Log → Caller → Kept → PointPiece → Type 0
NamesPoint log caller kept point =
    NamesPlace log caller kept caller.own point.colour (EntersOf caller.client) point.at
    × (kept.known point.colour ≤ point.position)

-- at these places, by colour, stand steps of the client's next id by itself, none of which was seen before
abbrev pub NamesSteps : Log → Caller → Kept → (ℕ → List ℕ) → Type 0
NamesSteps log caller kept places = (colour : ℕ) → All (λ place.
    (kept.seen caller.own colour ≤ place)
    × Has caller.client (log.histories caller.own colour)
    (IsStepOf (record { client = caller.client; count = kept.ids })) place) (places colour)

-- an append that stands
abbrev pub NamesAppend : Log → Untold → Caller → Kept → Option ℕ → List PointPiece → Type 0
NamesAppend log untold caller kept None points = All (NamesPoint log caller kept) points
NamesAppend log untold caller kept (Some number) points =
    All (NamesPoint log caller kept) points × NamesSteps log caller kept untold.places

-- a sync: a look, by which all own nodes stand that were known to
abbrev pub NamesSync : Log → Caller → Kept → SyncPiece → Type 0
NamesSync log caller kept sync =
    NamesLook log kept caller.own sync.colour sync.events × (kept.known sync.colour ≤ at sync.counts caller.own)

-- syncs, one after another
abbrev pub NamesSyncs : Log → Caller → Kept → List SyncPiece → Type 0
NamesSyncs log caller kept [] = Unit {0}
NamesSyncs log caller kept (sync ∷ syncs) =
    NamesSync log caller kept sync × NamesSyncs log caller (kept_after_piece log caller kept sync) syncs

-- raises, one after another, each behind all own nodes that were known to stand
abbrev pub NamesRaises : Log → Caller → Kept → List RaisePiece → Type 0
NamesRaises log caller kept [] = Unit {0}
NamesRaises log caller kept (raise ∷ raises) =
    NamesPlace log caller kept caller.own raise.colour IsRaise raise.at
    × (kept.known raise.colour ≤ length (line (take (events_until raise.at) (log.histories caller.own raise.colour))))
    × NamesRaises log caller (kept_after_place kept caller.own raise.colour raise.at) raises

-- a stamped read
abbrev pub NamesRead : Log → Caller → Kept → List RaisePiece → List SyncPiece → Type 0
NamesRead log caller kept raises syncs =
    NamesRaises log caller kept raises × NamesSyncs log caller (kept_after_raises caller kept raises) syncs

-- a pull: gives to the client's own region, and a carry of the other one's nodes
abbrev pub NamesPull : Log → Untold → Caller → Kept → ℕ → ℕ → At → At → Type 0
NamesPull log untold caller kept region colour give carry =
    All (Has caller.client (log.histories region colour) (GivesTo caller.own)) untold.too_low
    × NamesPlace log caller kept region colour (GivesTo caller.own) give
    × NamesPlace log caller kept caller.own colour (CarriesOf region) carry

-- the append of a decision's node
abbrev pub NamesEnd : Log → Untold → Caller → Kept → Ended → Type 0
NamesEnd log untold caller kept (ends.Stood stamp point) = NamesAppend log untold caller kept None (point ∷ [])
NamesEnd log untold caller kept _ = Unit {0}

-- all that an answer names
abbrev pub Names : Log → Untold → Caller → Kept → What → Answer → Type 0
Names log untold caller kept what (answers.Stood stamp row points) = NamesAppend log untold caller kept row points
Names log untold caller kept what (answers.StampEnd colour) =
    IsTrue (is_several caller kept what) → NamesSteps log caller kept untold.places
Names log untold caller kept what (answers.Stopped zero) = Unit {0}
Names log untold caller kept what (answers.Stopped (suc steps)) = NamesSteps log caller kept untold.places
Names log untold caller kept what (answers.Synced sync plays) = NamesSync log caller kept sync
Names log untold caller kept what (answers.Scanned stamp count raises syncs) = NamesRead log caller kept raises syncs
Names log untold caller kept what (answers.Pulled count give carry) =
    (region : ℕ) × (colour : ℕ) × (what ≡ whats.Pull region colour)
    × NamesPull log untold caller kept region colour give carry
Names log untold caller kept what (answers.Based at base) =
    (colour : ℕ) × (what ≡ whats.Trim colour) × NamesPlace log caller kept caller.own colour IsTrim at
Names log untold caller kept what (answers.Got value sync) = NamesSync log caller kept sync
Names log untold caller kept what (answers.GotMany values sync) = NamesSync log caller kept sync
Names log untold caller kept what (answers.GotKeys stamp shown raises syncs) = NamesRead log caller kept raises syncs
Names log untold caller kept what (answers.Ruled conflict stamp row points read_stamp raises syncs) =
    NamesAppend log untold caller kept row points
    × NamesRead log caller
    (kept_after_append untold caller kept (stamp_told log caller kept row points) row points) raises syncs
Names log untold caller kept what (answers.Changed failed stamp row points read_stamp raises syncs) =
    NamesAppend log untold caller kept row points
    × NamesRead log caller
    (kept_after_append untold caller kept (stamp_told log caller kept row points) row points) raises syncs
Names log untold caller kept what (answers.Listed names stamp raises syncs) = NamesRead log caller kept raises syncs
Names log untold caller kept what (answers.Undecided stamp sync) = NamesSync log caller kept sync
Names log untold caller kept what (answers.Decided commits stamp sync read_stamp raises syncs ended) =
    NamesSync log caller kept sync × NamesRead log caller (kept_after_piece log caller kept sync) raises syncs
    × NamesEnd log untold caller (kept_deciding log caller kept sync read_stamp raises syncs) ended
Names log untold caller kept what (answers.Moved lined waiting colour events) =
    NamesLook log kept caller.own colour events
Names log untold caller kept what (answers.Took value point sync) =
    NamesAppend log untold caller kept None (point ∷ [])
    × NamesSync log caller
    (kept_after_append untold caller kept (stamp_told log caller kept None (point ∷ [])) None (point ∷ [])) sync
Names log untold caller kept what _ = Unit {0}
