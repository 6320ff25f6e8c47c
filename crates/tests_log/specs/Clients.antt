-- Regions and clients that tests begin with.
use Rattle.std.specs.Prelude.{◌≡◌, ◌<◌, ◌≤◌, ℕ, Some, length, slice_get}
use Rattle.ring_ends.specs.declared.rings.Rings.{Rings}
use Rattle.ring_ends.specs.Places.{ring_place}
use Rattle.ring_ends.specs.Rings.{names_of, IsForRegions}
use Rattle.chain_store.specs.declared.closed.ClosedRegion.{ClosedRegion}
use Rattle.chain_store.specs.Regions.{rings_at}
use Rattle.stamp_board.specs.declared.view.Size.{Size}
use Rattle.chain_store.specs.declared.hold.Hold.{Hold}
use Rattle.chain_store.specs.declared.region.Region.{Region}
use Rattle.chain_store.specs.Holds.{IsHold}

-- two colours, and two clients with one row each
abbrev pub small : Size
small = record { clients = 2; colours = 2; rows = 1 }

-- the region of this number, of two that are so small
pub record IsSmall (number : ℕ) (r : Region) : Type 0 where
  pub number_is : r.number ≡ number
  pub regions : r.regions ≡ 2
  pub size : r.board.size ≡ small

-- the first region of a log, with one colour at least
abbrev pub IsFirst : Region → Type 0
IsFirst r = (r.number ≡ 0) × (0 < r.board.size.colours)

-- the hold of the client n, which has given out counts below `next` alone
pub record IsClient (r : Region) (n next : ℕ) (h : Hold) : Type 0 where
  pub hold : IsHold r h
  pub number : h.passes.number ≡ n
  pub given_out : h.next ≤ next

-- the client n's holds of two regions
pub record HoldsBoth (east west : Region) (n : ℕ) (g h : Hold) : Type 0 where
  pub first : IsHold east g
  pub second : IsHold west h
  pub of_east : g.passes.number ≡ n
  pub of_west : h.passes.number ≡ n

-- by each of two colours, the rings between the two regions' columns, there and back
pub record AreLinked (east west : Region) : Type 0 where
  pub there : (colour : ℕ) → colour < 2
      → slice_get (rings_at east colour).sends (ring_place 0 1) ≡ slice_get (rings_at west colour).receives (ring_place 1 0)
  pub back : (colour : ℕ) → colour < 2
      → slice_get (rings_at west colour).sends (ring_place 1 0) ≡ slice_get (rings_at east colour).receives (ring_place 0 1)

-- a small region that has ended has each column's ends of rings still
pub record EndsSmall (r : Region) (closed : ClosedRegion) : Type 0 where
  pub count : length closed.ends.items ≡ 2
  pub rings : (colour : ℕ) (rings : Rings) → slice_get closed.ends.items colour ≡ Some rings
      → (names_of rings ≡ rings_at r colour) × IsForRegions 2 rings
