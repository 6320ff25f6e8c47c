-- How the begun rows of a client are kept: their marks stand in one list, for each row as many as the board has colours.
use Rattle.std.specs.Prelude.{◌≡◌, ◌≤◌, ℕ, ◌+◌, ◌*◌, if◌then◌else◌, nat_lt, List, [], ◌∷◌, map, length, slice_index_or}
use Rattle.std.specs.List.{range_with_len}
use Rattle.log_node.specs.declared.limits.TheConstants.{MAX_COLOURS, MAX_ROWS}
use Rattle.log_node.specs.declared.marks.Mark.{Mark}
use Rattle.log_node.specs.declared.marks.Mark.TheVariants as mark
use Rattle.skeen_core.specs.declared.client_rows.RowHead.{RowHead}
use Rattle.skeen_core.specs.Boards.{BoardRow}

-- the mark of a colour in the row with this number
abbrev pub mark_kept : ℕ → List Mark → ℕ → ℕ → Mark
mark_kept colours marks n c = if nat_lt c colours then slice_index_or marks (n * colours + c) mark.None else mark.None

-- the row with this number, with a mark for every colour that there may be
abbrev pub row_kept : ℕ → List Mark → ℕ → RowHead → BoardRow
row_kept colours marks n head = record {
  id = head.id;
  colours = head.colours;
  marks = map (mark_kept colours marks n) (range_with_len 0 MAX_COLOURS);
  last = head.last;
}

-- the rows from a number on
abbrev pub rows_kept : ℕ → List Mark → ℕ → List RowHead → List BoardRow
rows_kept colours marks n [] = []
rows_kept colours marks n (head ∷ heads) = row_kept colours marks n head ∷ rows_kept colours marks (n + 1) heads

-- so many colours and rows at most, each begun row with its marks, and room for the marks and the heads of all rows
pub record IsKept (colours rows : ℕ) (marks : List Mark) (heads : List RowHead) (marks_room heads_room : ℕ) : Type 0 where
  pub few_colours : colours ≤ MAX_COLOURS
  pub few_rows : rows ≤ MAX_ROWS
  pub begun : length heads ≤ rows
  pub all_marks : length marks ≡ length heads * colours
  pub marks_fit : rows * colours ≤ marks_room
  pub heads_fit : rows ≤ heads_room
