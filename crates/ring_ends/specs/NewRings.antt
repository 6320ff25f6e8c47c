-- The rings of all regions, as they are made.
use Rattle.std.specs.Prelude.{◌≡◌, ◌≢◌, ℕ, List, [], length, Some, slice_get}
use Rattle.std.specs.List.{All}
use Rattle.ring_ends.specs.declared.sends.Sends.{Sends}
use Rattle.ring_ends.specs.declared.receives.Receives.{Receives}
use Rattle.ring_ends.specs.declared.rings.Rings.{Rings}
use Rattle.ring_ends.specs.declared.make.TheConstants.{RING_ROOM}
use Rattle.ring_ends.specs.Places.{ring_place}
use Rattle.ring_ends.specs.Rings.{gone, got, room_of, names_of, IsForRegions}

-- nothing has gone into the ring, which has all its room
abbrev pub IsNewSends : Sends → Type 0
IsNewSends s = (gone s ≡ []) × (room_of s ≡ RING_ROOM)

-- nothing has come out of the ring
abbrev pub IsNewReceives : Receives → Type 0
IsNewReceives r = (got r ≡ []) × (r.waiting.items ≡ [])

-- nothing has gone through the column's rings
abbrev pub AreUnused : Rings → Type 0
AreUnused x = All IsNewSends x.sends.items × All IsNewReceives x.receives.items

-- region a's end x of the ring to b, and b's end y of the ring from a, are of one ring
abbrev pub IsJoined : ℕ → ℕ → Rings → Rings → Type 0
IsJoined a b x y = slice_get (names_of x).sends (ring_place a b) ≡ slice_get (names_of y).receives (ring_place b a)

-- the ends of the column of that region and colour
abbrev pub AreAt : List (List Rings) → ℕ → ℕ → Rings → Type 0
AreAt all region colour x =
    (ends : List Rings) × (slice_get all region ≡ Some ends) × (slice_get ends colour ≡ Some x)

-- each column has its ends, through which nothing has gone, and each two regions are joined by each colour
pub record AreNewRings (regions colours : ℕ) (all : List (List Rings)) : Type 0 where
  pub regions_of : length all ≡ regions
  pub colours_of : (region : ℕ) (ends : List Rings) → slice_get all region ≡ Some ends → length ends ≡ colours
  pub each : (region colour : ℕ) (x : Rings) → AreAt all region colour x → IsForRegions regions x × AreUnused x
  pub joined : (colour a b : ℕ) (x y : Rings) → a ≢ b → AreAt all a colour x → AreAt all b colour y → IsJoined a b x y
