-- The regions of one store.
use Rattle.std.specs.Prelude.{◌≡◌, ◌≢◌, ℕ, ◌<◌, ◌≤◌, List, length, Some, slice_get}
use Rattle.log_node.specs.declared.limits.TheConstants.{MAX_REGIONS}
use Rattle.ring_ends.specs.Places.{ring_place}
use Rattle.stamp_board.specs.declared.view.Size.{Size}
use Rattle.chain_store.specs.declared.region.Region.{Region}
use Rattle.chain_store.specs.Regions.{rings_at}

-- the region with this number, of so many, with a board of this size
pub record IsRegionOf (k : Size) (many n : ℕ) (r : Region) : Type 0 where
  pub number : r.number ≡ n
  pub regions : r.regions ≡ many
  pub size : r.board.size ≡ k

-- by this colour, the ring from a region to another and the other's ring from it are one
abbrev pub AreJoinedBy : ℕ → ℕ → ℕ → Region → Region → Type 0
AreJoinedBy colour a b r s =
    slice_get (rings_at r colour).sends (ring_place a b) ≡ slice_get (rings_at s colour).receives (ring_place b a)

-- they are the regions of one store, by number
pub record AreRegionsOf (size : Size) (rs : List Region) : Type 0 where
  pub few : length rs ≤ MAX_REGIONS
  pub each : (n : ℕ) (r : Region) → slice_get rs n ≡ Some r → IsRegionOf size (length rs) n r
  pub joined : (colour a b : ℕ) (r s : Region) → colour < size.colours → a ≢ b → slice_get rs a ≡ Some r
      → slice_get rs b ≡ Some s → AreJoinedBy colour a b r s
