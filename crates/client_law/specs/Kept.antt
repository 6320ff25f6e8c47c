-- What a client keeps of its replies, beside what it has seen: all that its next reply rests on.
use Rattle.std.specs.Prelude.{◌≡◌, ℕ, ◌<◌, ◌≤◌, List, [], length, Some, slice_get}
use mathlib.Core.List.{IsPrefix}
use Rattle.log_node.specs.declared.ids.Key.{Key}
use Rattle.log_node.specs.Vectors.{at, IsWithin}
use Rattle.log_node.specs.Reach.{Reachable}
use Rattle.col_core.specs.declared.Entry.{Entry}
use Rattle.col_core.specs.History.{line}
use Rattle.col_core.specs.Cuts.{chain}
use Rattle.col_core.specs.Computed.{cut, dated}
use Rattle.col_core.specs.Log.{places_of}
use Rattle.col_core.specs.Keeping.{Kept, nothing_kept, kept_after_event, kept_after_look}
use Rattle.lawful_run.specs.Callers.{Caller}
use Rattle.client_law.specs.Knowing.{Seen, SeesOn}
use Rattle.client_law.specs.Making.{own_steps, IsOwnStepAt, MakesNone, MakesOnly}

-- the first nodes of the line, so many, have no stamp above this one
abbrev pub AreUnder : List Entry → ℕ → ℕ → Type 0
AreUnder history count stamp =
    (i : ℕ) (key : Key) → i < count → slice_get (line history) i ≡ Some key → key.stamp ≤ stamp

-- What the client keeps is of what it has seen, and its own steps there are just those that its replies name.
pub record IsKeptBy (seen : Seen) (caller : Caller) (kept : Kept) : Type 0 where
  pub seen_within : (region colour : ℕ) → kept.seen region colour ≤ length (seen region colour)
  pub known_within : (colour : ℕ) → kept.known colour ≤ length (line (seen caller.own colour))
  -- no node that is known to stand, and none that was played, has a stamp above the floor
  pub known_under : (colour : ℕ) → AreUnder (seen caller.own colour) (kept.known colour) kept.floor
  pub starts_under : (colour : ℕ) → AreUnder (seen caller.own colour) (at (kept.starts colour) caller.own) kept.floor
  -- each snapshot can be reached over what was seen
  pub starts_reached : (colour : ℕ)
      → Reachable (chain caller.own (dated caller.own (seen caller.own colour))) (kept.starts colour)
  pub steps_made : (region colour : ℕ) → places_of caller.client (seen region colour) ≡ kept.made region colour

-- A client that has seen nothing keeps nothing.
abbrev pub NothingIsKept : Type 0
NothingIsKept = (caller : Caller) → IsKeptBy (λ _ _. []) caller nothing_kept

-- What is kept stays so when more is seen and nothing of the client's own is made.
abbrev pub KeptStays : Type 0
KeptStays = (caller : Caller) (old new : Seen) (kept : Kept) → SeesOn caller old new
    → MakesNone caller.client old new → IsKeptBy old caller kept → IsKeptBy new caller kept

-- Each snapshot is within the cut of what was seen.
abbrev pub StartsWithin : Type 0
StartsWithin = (caller : Caller) (seen : Seen) (kept : Kept) (colour : ℕ) → IsKeptBy seen caller kept
    → IsWithin (kept.starts colour) (cut caller.own (dated caller.own (seen caller.own colour)))

-- What is kept after one event of the client's own, which it had not seen before.
abbrev pub KeptAfterEvent : Type 0
KeptAfterEvent = (caller : Caller) (old new : Seen) (kept : Kept) (region colour place : ℕ) → SeesOn caller old new
    → MakesOnly caller.client region colour 1 old new → IsKeptBy old caller kept
    → IsOwnStepAt caller.client (old region colour) (new region colour) place
    → IsKeptBy new caller (kept_after_event kept region colour place)

-- What is kept after a look at so many events that have been seen.
abbrev pub KeptAfterLook : Type 0
KeptAfterLook = (caller : Caller) (old new : Seen) (kept : Kept) (region colour events : ℕ) → SeesOn caller old new
    → MakesNone caller.client old new → IsKeptBy old caller kept → events ≤ length (new region colour)
    → IsKeptBy new caller (kept_after_look kept region colour events)

-- The client's own steps in the closing histories are just those that its replies name, where it made no more than it has
-- seen.
abbrev pub StepsAtEnd : Type 0
StepsAtEnd = (caller : Caller) (seen : Seen) (kept : Kept) (region colour : ℕ) (closing : List Entry)
    → IsKeptBy seen caller kept → IsPrefix (seen region colour) closing
    → own_steps caller.client closing ≡ own_steps caller.client (seen region colour)
    → places_of caller.client closing ≡ kept.made region colour
