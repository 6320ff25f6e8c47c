-- What it is to begin a row by a hold, and to know its marks.
use Rattle.std.specs.Prelude.{◌≡◌, ℕ, ◌+◌, true, Some}
use Rattle.log_node.specs.declared.ids.Row.{Row}
use Rattle.log_node.specs.declared.marks.Mark.{Mark}
use Rattle.log_node.specs.declared.node.Node.{Node}
use Rattle.log_node.specs.Seen.{BegunAppend}
use Rattle.log_node.specs.Sets.{has}
use Rattle.stamp_board.specs.declared.board.Board.{Board}
use Rattle.stamp_board.specs.declared.view.View.{View}
use Rattle.stamp_board.specs.declared.seats.Seat.{Seat}
use Rattle.stamp_board.specs.Seats.{Begins, IsNext}
use Rattle.stamp_board.specs.Views.{KnowsMark}
use Rattle.chain_store.specs.declared.hold.Hold.{Hold}
use Rattle.chain_store.specs.declared.region.Region.{Region}
use Rattle.chain_store.specs.Rows.{KnowsRow}
use Rattle.chain_store.specs.Holds.{view_of}

-- the node names the row that the client begins next, where one is left
abbrev pub HasNextRow : Board → Seat → Node → Type 0
HasNextRow b s x = (row : Row) → IsNext b s row → x.row ≡ Some row

-- what one holds of a node's append who has begun the row for it
abbrev pub begun_for : Node → Row → BegunAppend
begun_for x row = record { id = x.id; colours = x.colours; row = row; node = Some x }

-- the hold has begun the row for the node, which it then knows as begun, and has given out the node's count
pub record BeginsRow (r : Region) (g h : Hold) (row : Row) (x : Node) : Type 0 where
  pub seat : Begins g.seat h.seat row x
  pub knows : KnowsRow r.board.size r.number (view_of h) (begun_for x row)
  pub next : h.next ≡ x.id.count + 1

-- the seat knows these marks of the row, one for each of the node's colours
abbrev pub KnowsMarks : View → Row → Node → (ℕ → Mark) → Type 0
KnowsMarks v row x mark = (c : ℕ) → has x.colours c ≡ true → KnowsMark v row c (mark c)
