-- The rings of all regions that have ended: both ends of each are at hand.
use Rattle.std.specs.Prelude.{◌≡◌, ◌≢◌, ℕ, ◌<◌, List, length, map, Some, slice_get}
use Rattle.std.specs.List.{All}
use mathlib.Core.List.{IsPrefix}
use Rattle.column.specs.Columns.{ColumnState}
use Rattle.stamp_board.specs.declared.rows.ClosedRow.{ClosedRow}
use Rattle.log_node.specs.Seen.{PlacedNode}
use Rattle.ring_ends.specs.declared.rings.Rings.{Rings}
use Rattle.ring_ends.specs.declared.sends.Sends.{Sends}
use Rattle.ring_ends.specs.declared.receives.Receives.{Receives}
use Rattle.ring_ends.specs.Places.{ring_place}
use Rattle.ring_ends.specs.Rings.{gone, got, names_of, RingNames, IsForRegions}
use Rattle.ring_ends.specs.NewRings.{AreAt, IsJoined}
use Rattle.chain_store.specs.declared.closed.ClosedRegion.{ClosedRegion}

-- the ends of the regions' rings, by region and colour
abbrev pub ends_in : List ClosedRegion → List (List Rings)
ends_in closed = map (λ (c : ClosedRegion). c.ends.items) closed

-- By each colour, a region's end of the ring to another and the other's end of the ring from it are of one ring.
pub record AreJoined (regions colours : ℕ) (all : List (List Rings)) : Type 0 where
  pub regions_of : length all ≡ regions
  pub colours_of : All (λ (ends : List Rings). length ends ≡ colours) all
  pub each : (region colour : ℕ) (x : Rings) → AreAt all region colour x → IsForRegions regions x
  pub joined : (colour a b : ℕ) (x y : Rings) → a ≢ b → AreAt all a colour x → AreAt all b colour y → IsJoined a b x y

-- what came out of the ring from a to b is a beginning of what went into it
abbrev pub IsAlong : ℕ → ℕ → Rings → Rings → Type 0
IsAlong a b x y =
    (s : Sends) (r : Receives) → slice_get x.sends.items (ring_place a b) ≡ Some s
    → slice_get y.receives.items (ring_place b a) ≡ Some r → IsPrefix (got r) (gone s)

-- so it is of all rings
abbrev pub AreCarriedAlong : List (List Rings) → Type 0
AreCarriedAlong all =
    (colour a b : ℕ) (x y : Rings) → a ≢ b → AreAt all a colour x → AreAt all b colour y → IsAlong a b x y

-- what is known of a column's rings: their names, and what went through them
pub record RingsPast : Type 0 where
  pub names : RingNames
  pub gone_in : List (List PlacedNode)
  pub got_from : List (List PlacedNode)
  pub left : List (List PlacedNode)

abbrev pub past_of : Rings → RingsPast
past_of rings = record {
  names = names_of rings;
  gone_in = map gone rings.sends.items;
  got_from = map got rings.receives.items;
  left = map (λ (r : Receives). r.waiting.items) rings.receives.items;
}

-- what is known of a region that has ended
pub record EndedPast : Type 0 where
  pub columns : List ColumnState
  pub rows : List ClosedRow
  pub rings : List RingsPast

abbrev pub ended_past : ClosedRegion → EndedPast
ended_past c = record { columns = c.columns; rows = c.rows; rings = map past_of c.ends.items }

-- two columns' ends, of region a and of region b, each of one ring with the other's, and of rings of so many regions
pub record AreBetween (regions a b : ℕ) (x y : Rings) : Type 0 where
  pub first : IsForRegions regions x
  pub second : IsForRegions regions y
  pub there : IsJoined a b x y
  pub back : IsJoined b a y x

-- so are those of all colours
abbrev pub AreAllBetween : ℕ → ℕ → ℕ → List Rings → List Rings → Type 0
AreAllBetween regions a b xs ys =
    (length xs ≡ length ys)
    × ((colour : ℕ) (x y : Rings) → slice_get xs colour ≡ Some x → slice_get ys colour ≡ Some y
    → AreBetween regions a b x y)

-- what came out of the rings between the regions a and b is a beginning of what went in, both ways, by each colour below a number
abbrev pub BothAlong : ℕ → ℕ → ℕ → List Rings → List Rings → Type 0
BothAlong colours a b xs ys =
    (colour : ℕ) (x y : Rings) → colour < colours → slice_get xs colour ≡ Some x → slice_get ys colour ≡ Some y
    → IsAlong a b x y × IsAlong b a y x
