-- What is noted as held is held.
use Rattle.std.specs.Prelude.{◌≡◌, ℕ, ◌≤◌, List, Some, slice_get}
use Rattle.col_core.specs.declared.Event.TheVariants.{Give}
use Rattle.chain_store.specs.declared.told.Tag.{Tag}
use Rattle.chain_store.specs.declared.told.Told.{Told}
use Rattle.chain_store.specs.declared.hold.Hold.{Hold}
use Rattle.chain_store.specs.declared.region.Region.{Region}
use Rattle.chain_store.specs.Moves.{held_in}
use Rattle.chain_store.specs.Regions.{tag_at}
use Rattle.chain_store.specs.Holds.{seen_in, made_in}

-- if the entry gives to the history's region, it holds all nodes of this one below the number
abbrev pub IsHeldFor : Tag → List Told → ℕ → Told → Type 0
IsHeldFor t log region told = (from : ℕ) → told.entry.event ≡ Give t.region from → from ≤ held_in t log region

-- each give to the other region that it made by g is from a number that its hold h has seen held there
abbrev pub AsksForHeld : Region → Region → ℕ → Hold → Hold → Type 0
AsksForHeld from to colour g h =
    (n : ℕ) (told : Told) → slice_get (made_in g colour) n ≡ Some told
    → IsHeldFor (tag_at to colour) (seen_in h colour) from.number told
