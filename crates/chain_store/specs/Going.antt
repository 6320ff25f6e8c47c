-- How a client's hold goes on in its region from call to call.
use Rattle.std.specs.Prelude.{◌≡◌, ℕ, List, ◌++◌}
use Rattle.std.specs.List.{All}
use mathlib.Core.List.{IsPrefix}
use Rattle.col_core.specs.declared.Event.{Event}
use Rattle.chain_store.specs.declared.told.Told.{Told}
use Rattle.chain_store.specs.declared.hold.Hold.{Hold}
use Rattle.chain_store.specs.declared.region.Region.{Region}
use Rattle.chain_store.specs.Holds.{IsHold, SameBut, seen_in, made_in}

-- The hold has gone on in its region: it has seen more of each column, and made there on top only events of which Made
-- holds.
pub record GoesOn (Made : ℕ → Event → Type 0) (g h : Hold) : Type 0 where
  pub number : h.passes.number ≡ g.passes.number
  pub more : (c : ℕ) → IsPrefix (seen_in g c) (seen_in h c)
  pub made : (c : ℕ) → (ts : List Told) × (made_in h c ≡ made_in g c ++ ts)
      × All (λ (t : Told). Made c t.entry.event) ts

-- The hold rests in the region. It has seen more of the colour's column, and all else of it is as before.
pub record GoesOnIn (r : Region) (colour : ℕ) (g h : Hold) : Type 0 where
  pub rests : IsHold r h
  pub others : SameBut colour g h
  pub seat : h.seat ≡ g.seat
  pub next : h.next ≡ g.next
  pub more : IsPrefix (seen_in g colour) (seen_in h colour)
