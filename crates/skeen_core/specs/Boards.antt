-- What contracts see of a stamp board, and what its calls make of it.
use Rattle.std.specs.Prelude.{◌≡◌, ◌<◌, ℕ, Bool, true, false, Option, Some, None}
use Rattle.std.specs.Prelude.{List, [], ◌∷◌, ◌++◌, replicate, map, length, slice_get, slice_index_or, slice_set}
use Rattle.std.specs.List.{All}
use Rattle.log_node.specs.declared.ids.Id.{Id}
use Rattle.log_node.specs.declared.ids.Colours.{Colours}
use Rattle.log_node.specs.declared.ids.Row.{Row}
use Rattle.log_node.specs.declared.node.Node.{Node}
use Rattle.log_node.specs.Sets.{has, members}
use Rattle.log_node.specs.declared.marks.Mark.{Mark}
use Rattle.log_node.specs.declared.marks.Mark.TheVariants as marks
use Rattle.log_node.specs.declared.marks.Marked.{Marked}
use Rattle.log_node.specs.declared.marks.Marked.TheVariants.{Set, Already}
use Rattle.log_node.specs.declared.marks.Outcome.{Outcome}
use Rattle.log_node.specs.declared.marks.Outcome.TheVariants.{Open}
use Rattle.log_node.specs.declared.limits.TheConstants.{MAX_COLOURS}
use Rattle.log_node.specs.Outcomes.{outcome_of}

-- a begun row: the id and the colours of its node, a mark for every colour that there may be, and the outcome that is kept for it;
-- Open as long as none is
pub record BoardRow : Type 0 where
  pub id : Id
  pub colours : Colours
  pub marks : List Mark
  pub last : Outcome

-- a board: its numbers of colours and of rows for each client, and the begun rows of each client in their order
pub record Board : Type 0 where
  pub colours : ℕ
  pub rows : ℕ
  pub begun : List (List BoardRow)

-- the mark of a colour
abbrev pub mark_at : BoardRow → ℕ → Mark
mark_at row colour = slice_index_or row.marks colour marks.None

-- the marks of the row's colours, the smallest colour first
unfoldable pub row_marks : BoardRow → List Mark
row_marks row = map (mark_at row) (members row.colours)

-- the begun rows of one client, for so many colours, and how many it may begin
pub record RowsOfClient : Type 0 where
  pub begun : List BoardRow
  pub colours : ℕ
  pub rows : ℕ

-- a client's begun rows
abbrev pub rows_of : Board → ℕ → List BoardRow
rows_of board client = slice_index_or board.begun client []

-- how many rows a client has begun
abbrev pub used : Board → ℕ → ℕ
used board client = length (rows_of board client)

-- the row that a client begins next
abbrev pub next_of : Board → ℕ → Row
next_of board client = record { client = client; number = used board client }

-- a client may begin one more row
abbrev pub HasRow : Board → ℕ → Type 0
HasRow board client = used board client < board.rows

-- it may begin none, and this many are used
abbrev pub IsFull : Board → ℕ → ℕ → Type 0
IsFull board client count = (count ≡ used board client) × (used board client ≡ board.rows)

-- what is begun under a row's name
abbrev pub begun_at : Board → Row → Option BoardRow
begun_at board row = slice_get (rows_of board row.client) row.number

-- the row is one of the board's
abbrev pub IsRow : Board → Row → Type 0
IsRow board row = (row.client < length board.begun) × (row.number < board.rows)

-- a row that is not begun has no colour
abbrev pub has_in : Option BoardRow → ℕ → Bool
has_in None colour = false
has_in (Some r) colour = has r.colours colour

-- the row is begun for a node with this colour
abbrev pub IsBegunWith : Board → Row → ℕ → Type 0
IsBegunWith board row colour = has_in (begun_at board row) colour ≡ true

-- a row that is not begun has no mark, and neither has a colour that the row lacks
abbrev pub mark_in : Option BoardRow → ℕ → Mark
mark_in None colour = marks.None
mark_in (Some r) colour = mark_at r colour

-- the marks of a set of colours, the smallest colour first
abbrev pub marks_in : Option BoardRow → Colours → List Mark
marks_in row set = map (mark_in row) (members set)

-- a row that is not begun is open
abbrev pub outcome_in : Option BoardRow → Outcome
outcome_in None = Open
outcome_in (Some r) = outcome_of (row_marks r)

abbrev pub last_in : Option BoardRow → Outcome
last_in None = Open
last_in (Some r) = r.last

-- of two marks the first stands
abbrev pub first_mark : Mark → Mark → Mark
first_mark marks.None new = new
first_mark (marks.Number s) new = marks.Number s
first_mark (marks.Fenced why) new = marks.Fenced why

-- what comes of a mark, by the mark that was there before
abbrev pub marked : Mark → Marked
marked marks.None = Set
marked (marks.Number s) = Already (marks.Number s)
marked (marks.Fenced why) = Already (marks.Fenced why)

-- the row with a colour marked, unless it was marked before
abbrev pub with_mark : ℕ → Mark → BoardRow → BoardRow
with_mark colour new r = record r { marks = slice_set r.marks colour (first_mark (mark_at r colour) new) }

-- the row with the outcome of its marks kept
abbrev pub decided : BoardRow → BoardRow
decided r = record r { last = outcome_of (row_marks r) }

-- a row of a list is changed, where it is there
abbrev pub changed_by : List BoardRow → ℕ → (BoardRow → BoardRow) → Option BoardRow → List BoardRow
changed_by rows n f None = rows
changed_by rows n f (Some r) = slice_set rows n (f r)

abbrev pub changed_at : List BoardRow → ℕ → (BoardRow → BoardRow) → List BoardRow
changed_at rows n f = changed_by rows n f (slice_get rows n)

-- the board with a begun row changed
abbrev pub with_changed : Board → Row → (BoardRow → BoardRow) → Board
with_changed board row f = record board {
  begun = slice_set board.begun row.client (changed_at (rows_of board row.client) row.number f);
}

-- the board with one more begun row of a client
abbrev pub with_begun : Board → ℕ → BoardRow → Board
with_begun board client r = record board { begun = slice_set board.begun client (rows_of board client ++ r ∷ []) }

-- a row of which nothing is said yet
abbrev pub fresh_row : Id → Colours → BoardRow
fresh_row id colours = record { id = id; colours = colours; marks = replicate MAX_COLOURS marks.None; last = Open }

abbrev pub fresh_row_of : Node → BoardRow
fresh_row_of node = fresh_row node.id node.colours

-- a board on which no row is begun
abbrev pub empty_board : ℕ → ℕ → ℕ → Board
empty_board clients colours rows = record { colours = colours; rows = rows; begun = replicate clients [] }

-- each client has marks for so many colours, and may begin so many rows
abbrev pub HaveRows : ℕ → ℕ → List RowsOfClient → Type 0
HaveRows colours rows clients = All (λ c. (c.colours ≡ colours) × (c.rows ≡ rows)) clients
