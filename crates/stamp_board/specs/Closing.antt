-- What a board closes with.
use Rattle.std.specs.Prelude.{◌≡◌, ◌↔◌, ℕ, ◌<◌, Some, List, map, slice_get}
use Rattle.std.specs.List.{flat_map, range_with_len}
use Rattle.log_node.specs.declared.ids.Row.{Row}
use Rattle.stamp_board.specs.declared.view.Size.{Size}
use Rattle.stamp_board.specs.declared.view.View.{View}
use Rattle.stamp_board.specs.declared.seats.Seat.{Seat}
use Rattle.stamp_board.specs.declared.seats.ColumnSeat.{ColumnSeat}
use Rattle.stamp_board.specs.declared.rows.ClosedRow.{ClosedRow}
use Rattle.stamp_board.specs.Rows.{IsBegun, mark_in, marks_in, decided_in}
use Rattle.stamp_board.specs.Views.{Learns, MayBe}
use Rattle.stamp_board.specs.Seats.{seen, column_seen, set_mark}

-- the rows that a client's seat has begun
abbrev pub rows_begun : Seat → List Row
rows_begun s = map (λ j. record { client = s.client; number = j }) (range_with_len 0 s.used)

-- the rows that the seats have begun, by client and number
abbrev pub all_begun : List Seat → List Row
all_begun ss = flat_map rows_begun ss

abbrev pub closed_row : Size → List ℕ → Row → ClosedRow
closed_row k ws row = record { row = row; marks = marks_in k ws row; last = decided_in k ws row }

-- The board is lawful and agrees with v, all that any of the seats knew. A colour's mark is what that colour's seat had
-- set, and a client's rows are begun exactly below what its seat had used.
pub record Closes (k : Size) (ws : List ℕ) (v : View) (ss : List Seat) (cs : List ColumnSeat) : Type 0 where
  pub size : v.size ≡ k
  pub board : MayBe k ws v
  pub seats : (n : ℕ) (s : Seat) → slice_get ss n ≡ Some s → Learns (seen s) v
  pub columns : (n : ℕ) (c : ColumnSeat) → slice_get cs n ≡ Some c → Learns (column_seen c) v
  pub marks : (n : ℕ) (c : ColumnSeat) → slice_get cs n ≡ Some c → (row : Row)
      → mark_in k ws row n ≡ set_mark c row
  pub begun : (n : ℕ) (s : Seat) → slice_get ss n ≡ Some s → (j : ℕ) → j < k.rows
      → IsBegun k ws record { client = n; number = j } ↔ (j < s.used)
