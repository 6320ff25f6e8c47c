-- Reports of rows, proposals and settlings that no command may leave so.
use Rattle.std.specs.Prelude.{ℕ, List, [], ◌∷◌, codes}
use Rattle.log_node.specs.declared.marks.Mark.{Mark}
use Rattle.log_node.specs.declared.marks.Mark.TheVariants as marks
use Rattle.log_node.specs.declared.marks.Why.TheVariants.{Memory}
use Rattle.log_node.specs.declared.marks.Outcome.TheVariants.{Open, Gone, Final}
use Rattle.col_core.specs.declared.Event.TheVariants as made
use Rattle.script_text.specs.declared.commands.What.TheVariants.{Append, Stop}
use Rattle.script_text.specs.declared.commands.Word.TheVariants as words
use Rattle.script_text.specs.declared.script.Command.{Command}
use Rattle.script_text.specs.declared.script.Script.{Script}
use Rattle.report_text.specs.declared.report.Answer.TheVariants as answers
use Rattle.report_text.specs.declared.report.RowReport.{RowReport}
use Rattle.report_text.specs.declared.report.ColumnReport.{ColumnReport}
use Rattle.wrong_reports.specs.Cases.{Case, a, b, e, x, y, id, counts, on_x, on_both, together, asks, replies}
use Rattle.wrong_reports.specs.Cases.{to_both, column, empty, by, proposes, trims, shows}
use Rattle.wrong_reports.specs.Rows.{row, complete, proposed, one_append, stood}

-- row e a.0 a.0 x=1 y=1 final 1
abbrev pub row_of_first : RowReport
row_of_first = row e a 0 (id a 0) (marks.Number 1) (marks.Number 1) (Final 1)

-- 8 append ok 1 row 0 x!0@0 y!0@0
-- 9 stop stopped 1
abbrev pub stops_after : List RowReport → Case
stops_after rows = record {
  script = record (together (asks 8 a (Append on_both (codes "s")) ∷ asks 9 a (Stop 1 on_both (codes "t")) ∷ [])) {
    shape = record (together []).shape { rows = 2 };
  };
  report = shows (to_both (stood ∷ replies 9 words.Stop (answers.Stopped 1) ∷ []) []) rows (complete x ∷ complete y ∷ []);
}

-- row e a.0 a.1 x=- y=- open
-- row e a.1 a.0 x=1 y=1 final 1
abbrev pub a_row_of_another_number : Case
a_row_of_another_number = stops_after (row e a 0 (id a 1) marks.None marks.None Open
    ∷ row e a 1 (id a 0) (marks.Number 1) (marks.Number 1) (Final 1) ∷ [])

-- row e a.1 a.1 x=- y=- open
-- row e a.0 a.0 x=1 y=1 final 1
abbrev pub a_later_row_first : Case
a_later_row_first = stops_after (row e a 1 (id a 1) marks.None marks.None Open ∷ row_of_first ∷ [])

-- row e a.0 a.0 x=1 y=1 final 1
-- row e a.1 a.1 x=- y=- open
-- of a client that may begin one
abbrev pub a_row_too_many : Case
a_row_too_many = record {
  script = together (asks 8 a (Append on_both (codes "s")) ∷ asks 9 a (Stop 1 on_both (codes "t")) ∷ []);
  report = shows (to_both (stood ∷ replies 9 words.Stop (answers.Stopped 1) ∷ []) [])
      (row_of_first ∷ row e a 1 (id a 1) marks.None marks.None Open ∷ []) (complete x ∷ complete y ∷ []);
}

-- 8 stop stopped 2
-- row e a.0 a.0 x=1 y=- open
-- column e x
-- 0 a propose a.0 floor 0 wants 1 stamp 1
-- = clock 1 line - queue a.0:1? cut 0 base 0
abbrev pub a_proposal_with_other_wants : Case
a_proposal_with_other_wants = record {
  script = together (asks 8 a (Stop 2 on_both (codes "s")) ∷ []);
  report = shows (to_both (replies 8 words.Stop (answers.Stopped 2) ∷ []) [])
      (row e a 0 (id a 0) (marks.Number 1) marks.None Open ∷ [])
      (record (proposed x) { journal = by a (made.Propose (id a 0) 0 (counts 1 0)) 1 ∷ [] } ∷ empty e y ∷ []);
}

-- THREE COLOURS
abbrev pub z : ℕ
z = 2

-- the clients a and b of the region e, with the colours x, y and z
abbrev pub with_z : List Command → Script
with_z commands = record (together commands) {
  shape = record (together []).shape { colours = 3 };
  colours = codes "x" ∷ codes "y" ∷ codes "z" ∷ [];
}

-- the same column of z
abbrev pub of_z : ColumnReport → ColumnReport
of_z column = record column { colour = z; colour_name = codes "z" }

-- 8 a stop 1 x,y s
-- 8 stop stopped 1
-- row e a.0 a.0 x=- y=- open
-- column e z
-- 0 a propose a.0 floor 0 wants 0 stamp 1
-- = clock 1 line - queue a.0:1? cut 0 base 0
abbrev pub a_proposal_in_another_colour : Case
a_proposal_in_another_colour = record {
  script = with_z (asks 8 a (Stop 1 on_both (codes "s")) ∷ []);
  report = shows (to_both (replies 8 words.Stop (answers.Stopped 1) ∷ []) [])
      (row e a 0 (id a 0) marks.None marks.None Open ∷ []) (empty e x ∷ empty e y ∷ of_z (proposed x) ∷ []);
}

-- 8 stop stopped 0
-- 9 append nomemory
-- column e x
-- 0 b propose a.0 floor 0 wants 0 stamp 1
-- = clock 1 line - queue a.0:1? cut 0 base 0
abbrev pub a_proposal_for_no_row : Case
a_proposal_for_no_row = record {
  script = together (asks 8 a (Stop 0 on_both (codes "s")) ∷ asks 9 b (Append on_x (codes "t")) ∷ []);
  report = shows (to_both (replies 8 words.Stop (answers.Stopped 0) ∷ []) (replies 9 words.Append answers.NoMemory
      ∷ []))
      [] (record (proposed x) { journal = proposes b (id a 0) 0 1 ∷ [] } ∷ empty e y ∷ []);
}

-- 1 a settle a.0 final 1, with a stamp of its own
abbrev pub a_settling_with_a_stamp : Case
a_settling_with_a_stamp = record {
  script = one_append;
  report = shows (to_both (stood ∷ []) []) (row_of_first ∷ [])
      (record (complete x) { journal = proposes a (id a 0) 0 1 ∷ by a (made.Settle (id a 0) (Final 1)) 1 ∷ [] }
      ∷ complete y ∷ []);
}

-- 8 stop stopped 4
-- row e a.0 a.0 x=1 y=1 final 1
-- column e x
-- 0 a propose a.0 floor 0 wants 0 stamp 1
-- 1 a settle a.0 final 1
-- = clock 1 line a.0:1 queue - cut 1 base 0
-- column e y
-- 0 a propose a.0 floor 0 wants 0 stamp 1
-- = clock 1 line - queue a.0:1? cut 0 base 0
abbrev pub a_stopped_append_that_settles : Case
a_stopped_append_that_settles = record {
  script = together (asks 8 a (Stop 4 on_both (codes "s")) ∷ []);
  report = shows (to_both (replies 8 words.Stop (answers.Stopped 4) ∷ []) [])
      (row_of_first ∷ []) (complete x ∷ proposed y ∷ []);
}

-- APPENDS THAT FOUND NO MEMORY
-- 8 append nomemory
abbrev pub gone_rows : Mark → Mark → ColumnReport → ColumnReport → Case
gone_rows of_x of_y column_x column_y = record {
  script = one_append;
  report = shows (to_both (replies 8 words.Append answers.NoMemory ∷ []) [])
      (row e a 0 (id a 0) of_x of_y (Gone Memory) ∷ []) (column_x ∷ column_y ∷ []);
}

-- 0 a propose a.0 floor 0 wants 0 stamp 1
-- 1 a settle a.0 gone memory
-- = clock 1 line - queue - cut 0 base 0
abbrev pub taken_out : ℕ → ColumnReport
taken_out colour = column e colour (proposes a (id a 0) 0 1 ∷ by a (made.Settle (id a 0) (Gone Memory)) 0
    ∷ []) 1 [] [] (counts 0 0) (counts 0 0)

-- row e a.0 a.0 x=memory y=memory gone memory
-- x: a proposal
abbrev pub a_fence_of_what_was_proposed : Case
a_fence_of_what_was_proposed = gone_rows (marks.Fenced Memory) (marks.Fenced Memory) (taken_out x) (empty e y)

-- row e a.0 a.0 x=1 y=1 gone memory
abbrev pub gone_without_a_fence : Case
gone_without_a_fence = gone_rows (marks.Number 1) (marks.Number 1) (taken_out x) (taken_out y)

-- row e a.0 a.0 x=memory y=memory gone memory
-- column e x
-- 0 a trim 0
-- = clock 0 line - queue - cut 0 base 0
abbrev pub a_trim_made_by_an_append : Case
a_trim_made_by_an_append = gone_rows (marks.Fenced Memory) (marks.Fenced Memory)
    (record (empty e x) { journal = trims a (counts 0 0) ∷ [] }) (empty e y)
