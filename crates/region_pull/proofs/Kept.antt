-- What is carried up of pulls stays true through all other calls.
use Rattle.std.proofs.Common.{◌≡◌, ℕ, ◌<◌, Some, inl, inr, ◌⊎◌}
use Rattle.std.specs.Prelude.{slice_get}
use mathlib.Core.List.{IsPrefix}
use Rattle.chain_store.specs.declared.told.Told.{Told}
use Rattle.chain_store.specs.declared.hold.Hold.{Hold}
use Rattle.chain_store.specs.declared.region.Region.{Region}
use Rattle.chain_store.specs.Regions.{tag_at}
use Rattle.chain_store.specs.Holds.{IsHold, seen_in, made_in}
use Rattle.region_pull.specs.Origins.{IsHeldFor, AsksForHeld}
use Rattle.chain_store.proofs.CallerLemmas.{lawful_seen}
use Rattle.region_pull.proofs.Seen.{held_for_longer}

-- a client that has seen more of the asking column, and gave to it only from what it holds
pub held_stays : (from to : Region) (k : ℕ) (g g' h h' : Hold) → IsHold to h' → k < to.board.size.colours
    → IsPrefix (seen_in h k) (seen_in h' k)
    → ((n : ℕ) (told : Told) → slice_get (made_in g' k) n ≡ Some told
    → ((m : ℕ) × (slice_get (made_in g k) m ≡ Some told)) ⊎ IsHeldFor (tag_at to k) (seen_in h' k) from.number told)
    → AsksForHeld from to k g h → AsksForHeld from to k g' h'
held_stays from to k g g' h h' is lt more made was n told e = elim (made n told e) [
  | inl old ↦
      held_for_longer (tag_at to k) (seen_in h k) (seen_in h' k) more (lawful_seen to h' k is lt) from.number told
      (was old.0 told old.1)
  | inr new ↦ new
]
