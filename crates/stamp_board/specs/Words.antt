-- The words of a board: where each lies, whose it is, and what it means.
use Rattle.std.specs.Prelude.{ℕ, ◌+◌, ◌-◌, ◌*◌, ◌/◌, ◌%◌, ◌==◌, nat_le, if◌then◌else◌}
use Rattle.log_node.specs.declared.ids.Row.{Row}
use Rattle.log_node.specs.declared.marks.Why.TheVariants.{Memory, StampEnd}
use Rattle.log_node.specs.declared.marks.Mark.{Mark}
use Rattle.log_node.specs.declared.marks.Mark.TheVariants as marks
use Rattle.log_node.specs.declared.marks.Outcome.{Outcome}
use Rattle.log_node.specs.declared.marks.Outcome.TheVariants.{Open, Gone, Final}
use Rattle.stamp_board.specs.declared.view.Size.{Size}

-- A row has its set of colours, then a mark for each colour of the board, then the outcome with which it was decided.
abbrev pub width : Size → ℕ
width k = k.colours + 2

abbrev pub rows_of : Size → ℕ
rows_of k = k.clients * k.rows

abbrev pub words_of : Size → ℕ
words_of k = rows_of k * width k

-- the number of a row among all rows
abbrev pub row_at : Size → Row → ℕ
row_at k r = r.client * k.rows + r.number

-- the word of the part p of the row r: 0 the colours, 1 + c the mark of the colour c, colours + 1 the outcome
abbrev pub word_at : Size → ℕ → ℕ → ℕ
word_at k r p = r * width k + p

abbrev pub row_word : Size → Row → ℕ
row_word k row = word_at k (row_at k row) 0

abbrev pub mark_word : Size → Row → ℕ → ℕ
mark_word k row c = word_at k (row_at k row) (1 + c)

abbrev pub final_word : Size → Row → ℕ
final_word k row = word_at k (row_at k row) (k.colours + 1)

-- whose a word is: 0 nobody's, 1 + i the client i's, 1 + clients + c the colour c's
abbrev pub owner_in : Size → ℕ → ℕ → ℕ
owner_in k r p = if p == 0 then 1 + r / k.rows else (if nat_le p k.colours then k.clients + p else 0)

abbrev pub owner_of : Size → ℕ → ℕ
owner_of k i = owner_in k (i / width k) (i % width k)

abbrev pub mark_from : ℕ → Mark
mark_from n =
    if n == 0 then marks.None
    else (if n == 1 then marks.Fenced Memory else (if n == 2 then marks.Fenced StampEnd else marks.Number (n - 2)))

abbrev pub outcome_from : ℕ → Outcome
outcome_from n =
    if n == 0 then Open else (if n == 1 then Gone Memory else (if n == 2 then Gone StampEnd else Final (n - 2)))
