-- What holds of clients' holds while the regions are closed, the last one first.
use Rattle.std.specs.Prelude.{◌≡◌, ℕ, ◌<◌, ◌≤◌, List, [], ◌∷◌, ◌++◌, length, Some, slice_get}
use Rattle.chain_store.specs.declared.hold.Hold.{Hold}
use Rattle.chain_store.specs.declared.region.Region.{Region}
use Rattle.chain_store.specs.Holds.{IsHold}
use Rattle.log_client.specs.declared.closed.Leaving.{Leaving}

-- the holds that a client has left, by region
abbrev pub left_of : Leaving → List Hold
left_of c = c.items.items

-- each client has a hold left
abbrev pub HaveHoldsLeft : List Leaving → Type 0
HaveHoldsLeft clients = (n : ℕ) (c : Leaving) → slice_get clients n ≡ Some c → 0 < length (left_of c)

-- d is c without its last hold, which is h
abbrev pub GaveHold : Leaving → Leaving → Hold → Type 0
GaveHold c d h = left_of c ≡ left_of d ++ h ∷ []

-- the first so many clients gave a hold each, and these are they
pub record GatheredHolds (old new : List Leaving) (holds : List Hold) (n : ℕ) : Type 0 where
  pub same : length new ≡ length old
  pub count : length holds ≡ n
  pub gave : (i : ℕ) (c : Leaving) → i < n → slice_get old i ≡ Some c
      → (d : Leaving) × (h : Hold) × (slice_get new i ≡ Some d) × (slice_get holds i ≡ Some h) × GaveHold c d h
  pub later : (i : ℕ) → n ≤ i → slice_get new i ≡ slice_get old i

-- The client n has a hold of each of the regions, by number, and they are all its own.
pub record Leaves (rs : List Region) (n : ℕ) (hs : List Hold) : Type 0 where
  pub many : length hs ≡ length rs
  pub each : (k : ℕ) (r : Region) (h : Hold) → slice_get rs k ≡ Some r → slice_get hs k ≡ Some h
      → IsHold r h × (h.passes.number ≡ n)

-- they are all clients of the regions, by number
pub record AreLeaving (rs : List Region) (clients : List Leaving) : Type 0 where
  pub all : (k : ℕ) (r : Region) → slice_get rs k ≡ Some r → length clients ≡ r.board.size.clients
  pub each : (n : ℕ) (c : Leaving) → slice_get clients n ≡ Some c → Leaves rs n (left_of c)
