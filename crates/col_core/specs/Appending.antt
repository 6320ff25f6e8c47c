-- What an append leaves, over what is seen of its columns and rows: whoever has seen it says it in these words.
use Rattle.std.specs.Prelude.{◌≡◌, ◌≢◌, ◌⊎◌, IsTrue, ℕ, ◌+◌, ◌<◌, ◌≤◌, List, length, Some, None, slice_get}
use Rattle.std.specs.List.{All}
use Rattle.log_node.specs.declared.node.At.{At}
use Rattle.log_node.specs.declared.node.At.TheVariants.{Event, Look}
use Rattle.log_node.specs.declared.node.Node.{Node}
use Rattle.log_node.specs.Sets.{members}
use Rattle.log_node.specs.declared.marks.Why.{Why}
use Rattle.log_node.specs.declared.marks.Why.TheVariants.{StampEnd}
use Rattle.log_node.specs.declared.marks.Mark.{Mark}
use Rattle.log_node.specs.declared.marks.Mark.TheVariants as marks
use Rattle.log_node.specs.declared.marks.Outcome.{Outcome}
use Rattle.log_node.specs.declared.marks.Outcome.TheVariants.{Open, Gone}
use Rattle.log_node.specs.Standings.{open_entry}
use Rattle.col_core.specs.declared.Event as events
use Rattle.col_core.specs.declared.Event.TheVariants.{Single, Propose, Settle, Raise, Give, Carry, Trim}
use Rattle.col_core.specs.declared.Entry.{Entry}
use Rattle.col_core.specs.History.{entries, line, entry_key, has_entered}
use Rattle.col_core.specs.Rows.{node_wants}
use Rattle.col_core.specs.Log.{Log, HasMark, HasOutcome}

-- IN ONE COLUMN

-- The node entered the column of a colour where the point says, behind so many events: by the client's own proposal, or by
-- another client's, before a look of the client's.
abbrev pub EntersBehind : ℕ → List Entry → ℕ → Node → ℕ → At → Type 0
EntersBehind unseen history client node colour (Event place) =
    (unseen ≤ place)
    × (e : Entry) × (slice_get history place ≡ Some e) × (e.by ≡ client)
    × (e.event ≡ Propose node.id node.floor (node_wants node colour))
EntersBehind unseen history client node colour (Look seen) =
    (unseen ≤ seen) × (seen ≤ length history)
    × (place : ℕ) × (place < seen)
    × (e : Entry) × (slice_get history place ≡ Some e) × (e.by ≢ client)
    × (e.event ≡ Propose node.id node.floor (node_wants node colour))

-- the node stands under the stamp at this position of the line
abbrev pub StandsUnder : List Entry → Node → ℕ → ℕ → Type 0
StandsUnder history node stamp position = slice_get (line history) position ≡ Some (entry_key stamp node.id)

-- The node is open in the column of a colour no more, and will not be: it is fenced there, or has entered.
pub record IsClosedFor (log : Log) (history : List Entry) (node : Node) (colour : ℕ) : Type 0 where
  pub not_open : open_entry node.id (entries history) ≡ None
  pub for_good : ((why : Why) × HasMark log node colour (marks.Fenced why)) ⊎ IsTrue (has_entered node.id history)

-- IN ITS ROW

-- a colour of the node's row has a mark
abbrev pub IsMarked : Log → Node → ℕ → Type 0
IsMarked log node colour = (mark : Mark) × (mark ≢ marks.None) × HasMark log node colour mark

-- the node's row keeps an outcome
abbrev pub IsDecided : Log → Node → Type 0
IsDecided log node = (outcome : Outcome) × (outcome ≢ Open) × HasOutcome log node outcome

-- the node's row is gone, since the colour had no stamp left, which is the least such colour
pub record EndsAtColour (log : Log) (node : Node) (colour : ℕ) : Type 0 where
  pub outcome : HasOutcome log node (Gone StampEnd)
  pub fence : HasMark log node colour (marks.Fenced StampEnd)
  pub least : All (λ other. other < colour
      → (mark : Mark) × (mark ≢ marks.None) × (mark ≢ marks.Fenced StampEnd) × HasMark log node other mark)
      (members node.colours)

-- UP TO A STOP

-- The n-th colour of k has its proposal among so many first steps of the append (after the beginning of the row), and
-- its settling too (after all proposals and the decision).
abbrev pub IsStepWithin : ℕ → ℕ → ℕ → events.Event → Type 0
IsStepWithin n k steps (Single id floor wants) = ⊥
IsStepWithin n k steps (Propose id floor wants) = n + 1 < steps
IsStepWithin n k steps (Settle id outcome) = n + k + 2 < steps
IsStepWithin n k steps (Raise to) = ⊥
IsStepWithin n k steps (Give region from) = ⊥
IsStepWithin n k steps (Carry region start heads) = ⊥
IsStepWithin n k steps (Trim counts) = ⊥
