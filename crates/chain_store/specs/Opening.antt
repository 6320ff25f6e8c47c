-- What a region opens with.
use Rattle.std.specs.Prelude.{◌≡◌, ℕ, List, [], length, Some, slice_get}
use Rattle.log_node.specs.declared.node.Shape.{Shape}
use Rattle.stamp_board.specs.declared.view.Size.{Size}
use Rattle.ring_ends.specs.declared.rings.Rings.{Rings}
use Rattle.ring_ends.specs.Rings.{IsForRegions}
use Rattle.ring_ends.specs.NewRings.{AreUnused}
use Rattle.chain_store.specs.declared.hold.Hold.{Hold}
use Rattle.chain_store.specs.declared.region.Region.{Region}
use Rattle.chain_store.specs.Holds.{seen_in, view_of}
use Rattle.chain_store.specs.Closing.{AreHoldsOf}

-- the board that each region of the shape has
abbrev pub size_of : Shape → Size
size_of s = record { clients = length s.homes; colours = s.colours; rows = s.rows }

-- the hold has seen, made and begun nothing
pub record IsNewHold (h : Hold) : Type 0 where
  pub seen : (colour : ℕ) → seen_in h colour ≡ []
  pub known : (view_of h).known ≡ []
  pub begun : (view_of h).begun ≡ []
  pub used : h.seat.used ≡ 0
  pub next : h.next ≡ 0

-- they are new holds of all clients of the region, by number
abbrev pub AreNewHolds : Region → List Hold → Type 0
AreNewHolds r hs = AreHoldsOf r hs × ((n : ℕ) (h : Hold) → slice_get hs n ≡ Some h → IsNewHold h)

-- Ends of columns' rings: each column has one to each other region and one from each, through which nothing has gone.
abbrev pub AreNewEnds : ℕ → List Rings → Type 0
AreNewEnds regions ends =
    (colour : ℕ) (rings : Rings) → slice_get ends colour ≡ Some rings → IsForRegions regions rings × AreUnused rings
