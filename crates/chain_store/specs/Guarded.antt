-- What a node finds of a column in which it may only stand next, and why it does not enter.
use Rattle.std.specs.Prelude.{◌≡◌, ◌≢◌, ◌⊎◌, ℕ, List, length}
use Rattle.log_node.specs.declared.node.At.{At}
use Rattle.log_node.specs.declared.node.Node.{Node}
use Rattle.log_node.specs.Vectors.{at}
use Rattle.col_core.specs.declared.Entry.{Entry}
use Rattle.col_core.specs.History.{entries, open_count, line, last_stamp, IsAtEnd}
use Rattle.col_core.specs.Rows.{node_wants}
use Rattle.column.specs.declared.faults.OnlyFault.{OnlyFault}
use Rattle.column.specs.declared.faults.OnlyFault.TheVariants as only
use Rattle.chain_store.specs.declared.told.Told.{Told}
use Rattle.chain_store.specs.Histories.{entries_in}
use Rattle.chain_store.specs.Passes.{MakesOne}

-- how many nodes of the own line a node wants in a colour
abbrev pub wanted : ℕ → ℕ → Node → ℕ
wanted region colour node = at (node_wants node colour) region

-- after the history no entry is open, and the line has so many nodes: what enters stands next in it
abbrev pub IsNext : List Entry → ℕ → Type 0
IsNext history count = (open_count (entries history) ≡ 0) × (length (line history) ≡ count)

-- Why the node did not enter alone after the history: an entry is open, or the line is not as long as the node wants it,
-- which is told first; else it is as with any other node.
abbrev pub HasNextCause : ℕ → ℕ → List Entry → Node → OnlyFault → Type 0
HasNextCause region colour history node (only.Moved lined waiting events) =
    (lined ≡ length (line history)) × (waiting ≡ open_count (entries history)) × (events ≡ length history)
    × ((waiting ≢ 0) ⊎ (lined ≢ wanted region colour node))
HasNextCause region colour history node (only.StampEnd own clock) =
    IsNext history (wanted region colour node) × (own ≡ colour) × (clock ≡ last_stamp) × IsAtEnd history node.floor
HasNextCause region colour history node only.NoMemory = IsNext history (wanted region colour node)

-- the client n has seen more, and last made this entry, which came next after so many nodes of the line
pub record MakesNext (n : ℕ) (t : Told) (count : ℕ) (old new : List Told) (at : At) : Type 0 where
  pub made : MakesOne n t old new at
  pub next : IsNext (entries_in made.before) count
