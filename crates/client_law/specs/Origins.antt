-- That copies are true, from what is known of the nodes that were handed over and of what each client asked for.
use Rattle.std.specs.Prelude.{◌≡◌, ◌≢◌, ℕ, ◌<◌, ◌≤◌, List, length, Some, slice_get}
use mathlib.Core.List.{IsPrefix}
use Rattle.col_core.specs.declared.Entry.{Entry}
use Rattle.col_core.specs.declared.Event.TheVariants.{Give}
use Rattle.col_core.specs.Cuts.{chain}
use Rattle.col_core.specs.Computed.{dated}
use Rattle.col_core.specs.Legal.{IsColumnHistory}
use Rattle.col_core.specs.Copies.{AreTrueCopies}

-- What the copier holds of the origin's chain is a beginning of it.
abbrev pub CopyBegins : (ℕ → List Entry) → ℕ → ℕ → Type 0
CopyBegins histories origin copier =
    IsPrefix (chain copier (dated copier (histories copier)) origin) (chain origin (dated origin (histories origin)) origin)

-- Each give of a history asked from no greater number than its maker had seen to be held by the copier.
abbrev pub GivesAreHeld : (ℕ → List Entry) → ℕ → Type 0
GivesAreHeld histories origin =
    (place : ℕ) (e : Entry) (copier from : ℕ) → slice_get (histories origin) place ≡ Some e
    → e.event ≡ Give copier from
    → (seen : List Entry) × IsPrefix seen (histories copier)
    × (from ≤ length (chain copier (dated copier seen) origin))

-- The copies of a colour are true where all its histories are lawful, each copy is a beginning of its origin's chain, and each
-- give was made so.
abbrev pub LawfulCopiesAreTrue : Type 0
LawfulCopiesAreTrue = (regions : ℕ) (histories : ℕ → List Entry)
    → ((region : ℕ) → region < regions → IsColumnHistory region regions (dated region (histories region)))
    → ((origin copier : ℕ) → origin < regions → copier < regions → origin ≢ copier → CopyBegins histories origin copier)
    → ((region : ℕ) → region < regions → GivesAreHeld histories region)
    → AreTrueCopies regions (λ region. dated region (histories region))
