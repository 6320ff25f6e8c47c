-- Who proposed a begun append, and its mark where it is open.
use Rattle.std.specs.Prelude.{◌≡◌, ℕ, List, [], ◌∷◌}
use Rattle.std.specs.List.{Contains}
use Rattle.log_node.specs.declared.ids.Row.{Row}
use Rattle.log_node.specs.declared.marks.Mark.{Mark}
use Rattle.log_node.specs.declared.marks.Mark.TheVariants.{Number}
use Rattle.log_node.specs.declared.node.Node.{Node}
use Rattle.log_node.specs.Seen.{BegunAppend}
use Rattle.stamp_board.specs.declared.view.Size.{Size}
use Rattle.stamp_board.specs.declared.view.View.{View}
use Rattle.stamp_board.specs.Rows.{IsRow}
use Rattle.stamp_board.specs.Views.{KnowsBegun, KnowsMark}
use Rattle.chain_store.specs.declared.told.Told.{Told}
use Rattle.chain_store.specs.Columns.{told_propose}
use Rattle.chain_store.specs.Marks.{stamps_of}
use Rattle.chain_store.specs.Rows.{IsBegunRow}

-- in the history of a column of this region and colour somebody proposed the append's node under the number
abbrev pub HasProposal : Size → ℕ → ℕ → View → BegunAppend → List Told → ℕ → Type 0
HasProposal size region colour v begun log n =
    (by : ℕ) × (x : Node) × IsBegunRow size region v begun x × Contains log (told_propose colour by x n)

-- An append that is open in the column of the colour: the seat knows its mark there as the number under which the history
-- proposes it, once. A row of its id of which the seat knew before is its row, and whatever mark it knew there is this one.
pub record IsMarkedOpen (size : Size) (colour : ℕ) (old new : View) (log : List Told) (b : BegunAppend) : Type 0 where
  pub number : ℕ
  pub known : KnowsMark new b.row colour (Number number)
  pub stamped : stamps_of b.row log ≡ number ∷ []
  pub same : (row : Row) (x : Node) → IsRow size row → KnowsBegun old row x → x.id ≡ b.id
      → (row ≡ b.row) × (x.colours ≡ b.colours)
      × ((m : Mark) → KnowsMark old row colour m → m ≡ Number number)
