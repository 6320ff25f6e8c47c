-- Seats on their way, while a board opens and closes.
use Rattle.std.specs.Prelude.{◌≡◌, ◌≢◌, ◌⊎◌, ℕ, ◌+◌, ◌≤◌, Some, List, [], slice_get}
use Rattle.log_node.specs.declared.node.Node.{Node}
use Rattle.atomic_table.specs.declared.shared.Seat.{Seat as Inner}
use Rattle.stamp_board.specs.declared.view.Size.{Size}
use Rattle.stamp_board.specs.declared.view.View.{View}
use Rattle.stamp_board.specs.declared.board.Board.{Board}
use Rattle.stamp_board.specs.declared.seats.Seat.{Seat}
use Rattle.stamp_board.specs.declared.seats.ColumnSeat.{ColumnSeat}
use Rattle.stamp_board.specs.Words.{owner_of}
use Rattle.stamp_board.specs.Views.{at, Learns}
use Rattle.stamp_board.specs.Law.{Plays}
use Rattle.stamp_board.specs.Seats.{seen, column_seen}

-- a seat of the board's table
abbrev pub IsOf : Board → Inner Node View → Type 0
IsOf b s = (s.table_id ≡ b.table.shared.table_id) × (s.me.0.size ≡ b.size)

-- the seat stays at its table, and holds no slot more or less
abbrev pub Stays : Inner Node View → Inner Node View → Type 0
Stays s t = (t.table_id ≡ s.table_id) × (t.me.1 ≡ s.me.1)

-- the seat that has the parts of the board from `first` on, none of them used
pub record HasParts (b : Board) (s : Inner Node View) (first : ℕ) : Type 0 where
  pub board : s.table_id ≡ b.table.shared.table_id
  pub size : s.me.0.size ≡ b.size
  pub low : s.me.0.low ≡ first
  pub high : s.me.0.high ≡ 1 + b.size.clients + b.size.colours
  pub mine : s.me.0.mine ≡ []
  pub known : s.me.0.known ≡ []
  pub begun : s.me.0.begun ≡ []

-- v has set of the part p what u has, and knows what u knows
pub record IsIn (k : Size) (v : View) (p : ℕ) (u : View) : Type 0 where
  pub mine : (i : ℕ) → owner_of k i ≡ p → at v.mine i ≡ at u.mine i
  pub learns : Learns u v

-- u is what the seat of the part p knows
abbrev pub HasPart : Size → List Seat → List ColumnSeat → ℕ → View → Type 0
HasPart k ss cs p u =
    ((n : ℕ) × (s : Seat) × (slice_get ss n ≡ Some s) × (p ≡ 1 + n) × (u ≡ seen s))
    ⊎ ((n : ℕ) × (c : ColumnSeat) × (slice_get cs n ≡ Some c) × (p ≡ 1 + k.clients + n) × (u ≡ column_seen c))

-- the seats of the parts from v.low on are in v
pub record Gathered (k : Size) (ss : List Seat) (cs : List ColumnSeat) (v : View) : Type 0 where
  pub size : v.size ≡ k
  pub up : v.low ≤ v.high
  pub own : (i : ℕ) → at v.mine i ≢ 0 → Plays v (owner_of k i)
  pub done : (p : ℕ) (u : View) → HasPart k ss cs p u → v.low ≤ p → IsIn k v p u
