-- What the words of a board say of its rows: their colours, marks and outcomes.
use Rattle.std.specs.Prelude.{◌≡◌, ◌≢◌, ℕ, ◌+◌, ◌*◌, ◌<◌, ◌≤◌, ◌==◌, true, if◌then◌else◌, List, map, length, slice_index}
use Rattle.log_node.specs.declared.limits.TheConstants.{MAX_CLIENTS, MAX_COLOURS, MAX_ROWS}
use Rattle.log_node.specs.declared.ids.Row.{Row}
use Rattle.log_node.specs.declared.ids.Colours.{Colours}
use Rattle.log_node.specs.Sets.{has, members}
use Rattle.log_node.specs.declared.marks.Mark.{Mark}
use Rattle.log_node.specs.declared.marks.ColourMark.{ColourMark}
use Rattle.log_node.specs.declared.marks.Outcome.{Outcome}
use Rattle.log_node.specs.declared.marks.Outcome.TheVariants.{Open}
use Rattle.log_node.specs.Outcomes.{outcome_of}
use Rattle.stamp_board.specs.declared.view.TheConstants.{MAX_WORDS}
use Rattle.stamp_board.specs.declared.view.Size.{Size}
use Rattle.stamp_board.specs.Words.{row_at, word_at, row_word, mark_word, final_word, mark_from, outcome_from}

-- one client, one colour and one row of each client at least, and of each no more than the limits say; and no more words
pub record IsSize (k : Size) : Type 0 where
  pub some_clients : 0 < k.clients
  pub few_clients : k.clients ≤ MAX_CLIENTS
  pub some_colours : 0 < k.colours
  pub few_colours : k.colours ≤ MAX_COLOURS
  pub some_rows : 0 < k.rows
  pub few_rows : k.rows ≤ MAX_ROWS
  pub few_words : k.clients * k.rows * (k.colours + 2) ≤ MAX_WORDS

-- the row is one of the board's
abbrev pub IsRow : Size → Row → Type 0
IsRow k row = (row.client < k.clients) × (row.number < k.rows)

-- two colours or more, each one of the board's
pub record AreColours (k : Size) (set : Colours) : Type 0 where
  pub many : 2 ≤ length (members set)
  pub within : (c : ℕ) → has set c ≡ true → c < k.colours

-- the colours of the node for which the row is begun; none where it is not begun
abbrev pub colours_in : Size → List ℕ → Row → Colours
colours_in k ws row = record { 0 = slice_index ws (row_word k row) }

abbrev pub IsBegun : Size → List ℕ → Row → Type 0
IsBegun k ws row = (colours_in k ws row).0 ≢ 0

abbrev pub mark_in : Size → List ℕ → Row → ℕ → Mark
mark_in k ws row c = mark_from (slice_index ws (mark_word k row c))

-- the marks of the row's colours, the smallest colour first
abbrev pub marks_in : Size → List ℕ → Row → List ColourMark
marks_in k ws row = map (λ c. record { colour = c; mark = mark_in k ws row c }) (members (colours_in k ws row))

-- the outcome with which the row was decided; Open where it was not
abbrev pub decided_in : Size → List ℕ → Row → Outcome
decided_in k ws row = outcome_from (slice_index ws (final_word k row))

-- the marks of a set of colours, in the row with this number
abbrev pub marks_at : Size → List ℕ → ℕ → Colours → List Mark
marks_at k ws r set = map (λ c. mark_from (slice_index ws (word_at k r (1 + c)))) (members set)

-- the outcome that the marks of a row have; Open where it is not begun
abbrev pub outcome_at : Size → List ℕ → ℕ → Outcome
outcome_at k ws r =
    if slice_index ws (word_at k r 0) == 0 then Open
    else outcome_of (marks_at k ws r record { 0 = slice_index ws (word_at k r 0) })

abbrev pub outcome_in : Size → List ℕ → Row → Outcome
outcome_in k ws row = outcome_at k ws (row_at k row)
