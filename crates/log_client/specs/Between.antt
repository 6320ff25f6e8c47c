-- Pulls between two of a client's holds.
use Rattle.std.specs.Prelude.{◌≡◌, ◌≢◌, ℕ, List, Some, slice_get, slice_set}
use Rattle.chain_store.specs.declared.hold.Hold.{Hold}
use Rattle.chain_store.specs.declared.region.Region.{Region}
use Rattle.chain_store.specs.Going.{GoesOnIn}
use Rattle.chain_store.specs.Holds.{SeesMoreIn}
use Rattle.region_pull.specs.declared.pulled.Pulled.{Pulled}
use Rattle.region_pull.specs.declared.pulled.PullFault.{PullFault}
use Rattle.region_pull.specs.declared.pulled.PullFault.TheVariants as pull_faults
use Rattle.region_pull.specs.Origins.{AsksForHeld}
use Rattle.region_pull.specs.Pulls.{PullsByHolds, GivesAlone}

-- The holds are as before but for two, of different regions.
pub record ChangesTwo (n m : ℕ) (gs hs : List Hold) (g g' h h' : Hold) : Type 0 where
  pub apart : n ≢ m
  pub first : slice_get gs n ≡ Some g
  pub second : slice_get gs m ≡ Some h
  pub changed : hs ≡ slice_set (slice_set gs n g') m h'

-- two of the holds changed as those of a pull between two regions
abbrev pub PullsBetween : Region → Region → ℕ → List Hold → List Hold → Pulled → Type 0
PullsBetween from to colour gs hs p =
    (g g' h h' : Hold) × ChangesTwo from.number to.number gs hs g g' h h'
    × GoesOnIn from colour g g' × GoesOnIn to colour h h' × PullsByHolds from to colour g g' h h' p
    × (AsksForHeld from to colour g h → AsksForHeld from to colour g' h')

-- the same of one that was refused for want of memory
abbrev pub LeavesBetween : Region → Region → ℕ → List Hold → List Hold → PullFault → Type 0
LeavesBetween from to colour gs hs fault =
    (g g' h h' : Hold) × ChangesTwo from.number to.number gs hs g g' h h'
    × GoesOnIn from colour g g' × GoesOnIn to colour h h' × (fault ≡ pull_faults.NoMemory)
    × GivesAlone from to colour g g' h h' × SeesMoreIn colour h h'
    × (AsksForHeld from to colour g h → AsksForHeld from to colour g' h')
