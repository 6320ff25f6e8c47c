-- A stop within an append, over the log. Over what a client has seen: client_law; over holds: append_core.
use Rattle.std.specs.Prelude.{◌≡◌, ℕ, ◌+◌, ◌<◌, ◌≤◌, List, length, Some, slice_get}
use Rattle.std.specs.List.{All}
use Rattle.log_node.specs.declared.node.Node.{Node}
use Rattle.log_node.specs.Sets.{members}
use Rattle.col_core.specs.declared.Entry.{Entry}
use Rattle.col_core.specs.Log.{Log}
use Rattle.col_core.specs.Appending.{IsMarked, IsDecided, IsStepWithin}
use Rattle.col_core.specs.Keeping.{Kept, with_made, with_row}
use Rattle.lawful_run.specs.Callers.{Caller}
use Rattle.lawful_run.specs.Appends.{BeginsRow, IsSettledIn}

-- An append of several colours has stopped after so many steps, one or more: it has begun its row, then marked its
-- colours in their order, then decided, then settled its colours in their order; and the client took no later step.
pub record StopsAfter (log : Log) (caller : Caller) (kept : Kept) (node : Node) (steps : ℕ)
    (places : ℕ → List ℕ) : Type 0 where
  pub begins : BeginsRow log caller kept node places
  pub marked : (n colour : ℕ) → slice_get (members node.colours) n ≡ Some colour → n + 1 < steps
      → IsMarked log node colour
  pub decided : length (members node.colours) + 2 ≤ steps → IsDecided log node
  pub settled : (n colour : ℕ) → slice_get (members node.colours) n ≡ Some colour
      → n + length (members node.colours) + 2 < steps → IsSettledIn log caller node colour
  pub no_later : (n colour : ℕ) → slice_get (members node.colours) n ≡ Some colour → All (λ place.
      (e : Entry) × (slice_get (log.histories caller.own colour) place ≡ Some e)
      × IsStepWithin n (length (members node.colours)) steps e.event) (places colour)

-- A stop, and what the client then keeps.
pub data Stops (log : Log) (caller : Caller) (kept : Kept) (node : Node) : ℕ → Kept → Type 0 where
  stopped_at_once : Stops log caller kept node 0 kept
  stopped_after : (steps : ℕ) (places : ℕ → List ℕ) → StopsAfter log caller kept node (steps + 1) places
      → Stops log caller kept node (steps + 1) (with_made (with_row kept) caller.own places)
