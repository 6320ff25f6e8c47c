-- Where a client's own steps stand among what it has seen of a history of late.
use Rattle.std.specs.Prelude.{◌≡◌, ◌≢◌, ◌⊎◌, Bool, IsTrue, ℕ, ◌+◌, ◌≤◌, ◌==◌, ◌&&◌, List, [], ◌∷◌, ◌++◌, length, drop, Some, slice_get}
use Rattle.std.specs.List.{All, Contains, filter}
use mathlib.Core.List.{IsPrefix}
use Rattle.col_core.specs.declared.Entry.{Entry}
use Rattle.col_core.specs.Log.{is_own, places_from, places_of}
use Rattle.client_law.specs.Knowing.{Seen}

-- the entries of a history that a client made
abbrev pub made_of : ℕ → List Entry → List Entry
made_of client history = filter (λ (e : Entry). e.by == client) history

-- the client made the entry, as a step of a command of its own
abbrev pub is_own_step : ℕ → Entry → Bool
is_own_step client e = (e.by == client) && is_own client e.event

-- the client's own steps in a history
abbrev pub own_steps : ℕ → List Entry → List Entry
own_steps client history = filter (is_own_step client) history

-- the places of the client's own steps in a history that goes on from an older one
abbrev pub places_since : ℕ → List Entry → List Entry → List ℕ
places_since client old new = places_from (length old) client (drop (length old) new)

-- an own step of the client stands at the place, which was not seen before
abbrev pub IsOwnStepAt : ℕ → List Entry → List Entry → ℕ → Type 0
IsOwnStepAt client old new place =
    (length old ≤ place) × (e : Entry) × (slice_get new place ≡ Some e) × IsTrue (is_own_step client e)

-- the places rise, the first from this one on
abbrev pub RiseFrom : ℕ → List ℕ → Type 0
RiseFrom from [] = Unit {0}
RiseFrom from (place ∷ places) = (from ≤ place) × RiseFrom (place + 1) places

-- the client made no step of its own
abbrev pub MakesNone : ℕ → Seen → Seen → Type 0
MakesNone client old new =
    (region colour : ℕ) → own_steps client (new region colour) ≡ own_steps client (old region colour)

-- the client made so many steps of its own in one column, and none elsewhere
pub record MakesOnly (client region colour count : ℕ) (old new : Seen) : Type 0 where
  pub here : length (own_steps client (new region colour)) ≡ length (own_steps client (old region colour)) + count
  pub others : (r c : ℕ) → (r ≢ region) ⊎ (c ≢ colour) → own_steps client (new r c) ≡ own_steps client (old r c)

-- the client made no step of its own in another region
abbrev pub MakesAtHome : ℕ → ℕ → Seen → Seen → Type 0
MakesAtHome client own old new =
    (region colour : ℕ) → region ≢ own → own_steps client (new region colour) ≡ own_steps client (old region colour)

-- The client's own steps in a longer history are those before and those since.
abbrev pub PlacesGrow : Type 0
PlacesGrow = (client : ℕ) (old new : List Entry) → IsPrefix old new
    → places_of client new ≡ places_of client old ++ places_since client old new

-- At each place since stands an own step that was not seen before.
abbrev pub PlacesStand : Type 0
PlacesStand = (client : ℕ) (old new : List Entry) → IsPrefix old new
    → All (IsOwnStepAt client old new) (places_since client old new)

-- Rising places at which own steps stand that were not seen before are all places since, where they are as many as the
-- client made.
abbrev pub PlacesCounted : Type 0
PlacesCounted = (client : ℕ) (old new : List Entry) (places : List ℕ) → IsPrefix old new
    → length (own_steps client new) ≡ length (own_steps client old) + length places
    → RiseFrom (length old) places → All (IsOwnStepAt client old new) places
    → places_since client old new ≡ places

-- Where nothing of its own was made the places are as before.
abbrev pub PlacesStay : Type 0
PlacesStay = (client : ℕ) (old new : List Entry) → IsPrefix old new
    → own_steps client new ≡ own_steps client old → places_of client new ≡ places_of client old

-- Of what a client made on top its own steps are those that do not help.
abbrev pub StepsAmongMade : Type 0
StepsAmongMade = (client : ℕ) (old new more : List Entry) → made_of client new ≡ made_of client old ++ more
    → own_steps client new ≡ own_steps client old ++ filter (λ (e : Entry). is_own client e.event) more

-- So many of them they are.
abbrev pub StepsCounted : Type 0
StepsCounted = (client : ℕ) (old new more : List Entry) → made_of client new ≡ made_of client old ++ more
    → length (own_steps client new)
    ≡ length (own_steps client old) + length (filter (λ (e : Entry). is_own client e.event) more)

-- What a client made and had not seen before is among what it made on top.
abbrev pub MadeOnTop : Type 0
MadeOnTop = (client : ℕ) (old new more : List Entry) (place : ℕ) (e : Entry) → IsPrefix old new
    → made_of client new ≡ made_of client old ++ more → length old ≤ place → slice_get new place ≡ Some e
    → e.by ≡ client → Contains more e
