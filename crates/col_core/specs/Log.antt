-- The whole log: the histories of all columns, the nodes that each client appended, and the begun rows.
use Rattle.std.specs.Prelude.{◌≡◌, ◌≢◌, Bool, true, ℕ, ◌+◌, ◌==◌, ◌&&◌, List, [], ◌∷◌, take, Some, slice_get, if◌then◌else◌}
use Rattle.std.specs.List.{AllZip, Contains}
use mathlib.Core.List.{IsPrefix}
use Rattle.log_node.specs.declared.ids.Id.{Id}
use Rattle.log_node.specs.declared.node.Node.{Node}
use Rattle.log_node.specs.declared.marks.Mark.{Mark}
use Rattle.log_node.specs.declared.marks.Mark.TheVariants as marks
use Rattle.log_node.specs.declared.marks.ColourMark.{ColourMark}
use Rattle.log_node.specs.declared.marks.Outcome.{Outcome}
use Rattle.log_node.specs.declared.marks.Outcome.TheVariants.{Open}
use Rattle.col_core.specs.declared.Event.{Event}
use Rattle.col_core.specs.declared.Event.TheVariants.{Single, Propose, Settle, Raise, Give, Carry, Trim}
use Rattle.col_core.specs.declared.Entry.{Entry}
use Rattle.col_core.specs.History.{line}
use Rattle.col_core.specs.Cuts.{Dated}
use Rattle.col_core.specs.Computed.{dated}
use Rattle.col_core.specs.Rows.{BegunRow}

pub record Log : Type 0 where
  -- the history of each column, by region and colour
  pub histories : ℕ → ℕ → List Entry
  -- the nodes that each client appended, in the order of their ids
  pub nodes : ℕ → List Node
  -- the begun rows of each region
  pub rows : ℕ → List BegunRow

-- a mark that is set stays
abbrev pub IsLaterMark : ColourMark → ColourMark → Type 0
IsLaterMark old new = (new.colour ≡ old.colour) × (old.mark ≢ marks.None → new.mark ≡ old.mark)

-- a row and the same row later: marks that are set stay, and so does an outcome that is decided
pub record IsLaterRow (old new : BegunRow) : Type 0 where
  pub row : new.row ≡ old.row
  pub node : new.node ≡ old.node
  pub marks : AllZip IsLaterMark old.marks new.marks
  pub last : old.last ≢ Open → new.last ≡ old.last

-- a later log: each history and each own line begins as before, and so do each client's nodes; each row is there later
pub record IsLater (old new : Log) : Type 0 where
  pub histories : (region colour : ℕ) → IsPrefix (old.histories region colour) (new.histories region colour)
  pub lines : (region colour : ℕ)
      → IsPrefix (line (old.histories region colour)) (line (new.histories region colour))
  pub nodes : (client : ℕ) → IsPrefix (old.nodes client) (new.nodes client)
  pub rows : (region : ℕ) (r : BegunRow) → Contains (old.rows region) r
      → (s : BegunRow) × Contains (new.rows region) s × IsLaterRow r s

-- the first events of a column, each with the cut before it
abbrev pub first : Log → ℕ → ℕ → ℕ → List Dated
first log region colour count = dated region (take count (log.histories region colour))

-- the node with this id was appended, and has this text
abbrev pub HasText : Log → Id → List ℕ → Type 0
HasText log id text =
    (node : Node) × (slice_get (log.nodes id.client) id.count ≡ Some node) × (node.id ≡ id) × (node.text ≡ text)

-- the row is begun for the node
pub record IsBegunFor (log : Log) (node : Node) (r : BegunRow) : Type 0 where
  pub begun : Contains (log.rows node.region) r
  pub of_node : r.node ≡ node

-- the row of the node has this mark for the colour
abbrev pub HasMark : Log → Node → ℕ → Mark → Type 0
HasMark log node colour mark =
    (r : BegunRow) × IsBegunFor log node r × Contains r.marks (record { colour = colour; mark = mark })

-- the row of the node has this outcome
abbrev pub HasOutcome : Log → Node → Outcome → Type 0
HasOutcome log node outcome = (r : BegunRow) × IsBegunFor log node r × (r.last ≡ outcome)

-- The event, made by the client, is a step of a command of its own. The others help: they propose or settle the node of
-- another client.
abbrev pub is_own : ℕ → Event → Bool
is_own client (Single _ _ _) = true
is_own client (Propose id _ _) = id.client == client
is_own client (Settle id _) = id.client == client
is_own client (Raise _) = true
is_own client (Give _ _) = true
is_own client (Carry _ _ _) = true
is_own client (Trim _) = true

-- the places of the client's own steps, where the first event has this place
abbrev pub places_from : ℕ → ℕ → List Entry → List ℕ
places_from place client [] = []
places_from place client (e ∷ es) =
    if (e.by == client) && is_own client e.event then place ∷ places_from (place + 1) client es
    else places_from (place + 1) client es

-- the places of the client's own steps, in their order
abbrev pub places_of : ℕ → List Entry → List ℕ
places_of client history = places_from 0 client history
