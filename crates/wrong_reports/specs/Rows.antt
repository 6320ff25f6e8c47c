-- Reports whose rows are wrong. The script: the client a appends the text s to x and y.
use Rattle.std.specs.Prelude.{ℕ, List, [], ◌∷◌, codes, Some, None, false}
use Rattle.log_node.specs.declared.ids.Id.{Id}
use Rattle.log_node.specs.declared.marks.Why.TheVariants as whys
use Rattle.log_node.specs.declared.marks.Mark.{Mark}
use Rattle.log_node.specs.declared.marks.Mark.TheVariants as marks
use Rattle.log_node.specs.declared.marks.Outcome.{Outcome}
use Rattle.log_node.specs.declared.marks.Outcome.TheVariants.{Open, Gone, Final}
use Rattle.col_core.specs.declared.Event.TheVariants.{Settle}
use Rattle.col_core.specs.declared.Entry.{Entry}
use Rattle.script_text.specs.declared.commands.What.TheVariants.{Append}
use Rattle.script_text.specs.declared.commands.Word.TheVariants as words
use Rattle.script_text.specs.declared.script.Script.{Script}
use Rattle.report_text.specs.declared.report.Answer.TheVariants as answers
use Rattle.report_text.specs.declared.report.ReplyLine.{ReplyLine}
use Rattle.report_text.specs.declared.report.RowReport.{RowReport}
use Rattle.report_text.specs.declared.report.ColumnReport.{ColumnReport}
use Rattle.wrong_reports.specs.Cases.{Case, a, b, e, x, y, id, key, counts, on_x, on_both, together, asks, replies}
use Rattle.wrong_reports.specs.Cases.{to_both, column, empty, by, enters, proposes, point, shows}

-- the row of a client, its node, the marks of x and y, and the outcome
abbrev pub row : ℕ → ℕ → ℕ → Id → Mark → Mark → Outcome → RowReport
row region client number node of_x of_y last = record {
  region = region;
  row = record { client = client; number = number };
  id = node;
  marks = record { colour = x; mark = of_x } ∷ record { colour = y; mark = of_y } ∷ [];
  last = last;
}

-- the client settles a node as final under a stamp
abbrev pub settles : ℕ → Id → ℕ → Entry
settles client node stamp = by client (Settle node (Final stamp)) 0

-- 0 a propose a.0 floor 0 wants 0 stamp 1
-- 1 a settle a.0 final 1
-- = clock 1 line a.0:1 queue - cut 1 base 0
abbrev pub complete : ℕ → ColumnReport
complete colour = column e colour (proposes a (id a 0) 0 1 ∷ settles a (id a 0) 1 ∷ []) 1 (key 1 (id a 0)
    ∷ []) [] (counts 1 0) (counts 0 0)

-- 8 a append x,y s
abbrev pub one_append : Script
one_append = together (asks 8 a (Append on_both (codes "s")) ∷ [])

-- 8 append ok 1 row 0 x!0@0 y!0@0
abbrev pub stood : ReplyLine
stood = replies 8 words.Append (answers.Stood 1 (Some 0) (point x 0 0 ∷ point y 0 0 ∷ []))

-- both columns complete
abbrev pub has_rows : List RowReport → Case
has_rows rows = record {
  script = one_append;
  report = shows (to_both (stood ∷ []) []) rows (complete x ∷ complete y ∷ []);
}

-- row e a.1 a.0 x=1 y=1 final 1
abbrev pub a_row_out_of_count : Case
a_row_out_of_count = has_rows (row e a 1 (id a 0) (marks.Number 1) (marks.Number 1) (Final 1) ∷ [])

-- row e a.0 b.0 x=1 y=1 final 1
abbrev pub a_row_for_anothers_node : Case
a_row_for_anothers_node = has_rows (row e a 0 (id b 0) (marks.Number 1) (marks.Number 1) (Final 1) ∷ [])

-- row e a.0 a.0 x=1 final 1
abbrev pub a_row_of_one_colour : Case
a_row_of_one_colour = has_rows (record (row e a 0 (id a 0) (marks.Number 1) (marks.Number 1) (Final 1)) {
  marks = record { colour = x; mark = marks.Number 1 } ∷ [];
} ∷ [])

-- row e a.0 a.0 x=1 y=1 final 1
-- row e a.1 a.0 x=1 y=1 final 1
abbrev pub two_rows_for_one_node : Case
two_rows_for_one_node = has_rows (row e a 0 (id a 0) (marks.Number 1) (marks.Number 1) (Final 1)
    ∷ row e a 1 (id a 0) (marks.Number 1) (marks.Number 1) (Final 1) ∷ [])

-- row e a.0 a.0 x=2 y=1 final 2
abbrev pub a_mark_that_was_not_proposed : Case
a_mark_that_was_not_proposed = has_rows (row e a 0 (id a 0) (marks.Number 2) (marks.Number 1) (Final 2) ∷ [])

-- row e a.0 a.0 x=- y=1 open
abbrev pub a_proposal_without_a_mark : Case
a_proposal_without_a_mark = has_rows (row e a 0 (id a 0) marks.None (marks.Number 1) Open ∷ [])

-- row e a.0 a.0 x=1 y=1 final 2
abbrev pub an_outcome_of_other_marks : Case
an_outcome_of_other_marks = has_rows (row e a 0 (id a 0) (marks.Number 1) (marks.Number 1) (Final 2) ∷ [])

-- row e a.0 a.0 x=1 y=1 open
abbrev pub a_settling_unlike_the_outcome : Case
a_settling_unlike_the_outcome = has_rows (row e a 0 (id a 0) (marks.Number 1) (marks.Number 1) Open ∷ [])

-- no row
abbrev pub a_proposal_without_a_row : Case
a_proposal_without_a_row = has_rows []

-- row e b.0 b.0 x=1 y=1 final 1
-- row e a.0 a.0 x=1 y=1 final 1
abbrev pub rows_out_of_order : Case
rows_out_of_order = has_rows (row e b 0 (id b 0) (marks.Number 1) (marks.Number 1) (Final 1)
    ∷ row e a 0 (id a 0) (marks.Number 1) (marks.Number 1) (Final 1) ∷ [])

-- 8 append stampend x
-- row e a.0 a.0 x=stampend y=stampend gone stampend
-- column e x
-- = clock 0 line - queue - cut 0 base 0
abbrev pub a_fence_with_stamps_left : Case
a_fence_with_stamps_left = record {
  script = one_append;
  report = shows (to_both (replies 8 words.Append (answers.StampEnd x) ∷ []) [])
      (row e a 0 (id a 0) (marks.Fenced whys.StampEnd) (marks.Fenced whys.StampEnd) (Gone whys.StampEnd) ∷ [])
      (empty e x ∷ empty e y ∷ []);
}

-- 8 append full 0
abbrev pub full_too_early : Case
full_too_early = record {
  script = one_append;
  report = shows (to_both (replies 8 words.Append (answers.Full 0) ∷ []) []) [] (empty e x ∷ empty e y ∷ []);
}

-- TWO APPENDS, of a and of b, in another order in x than in y
-- 8 append ok 1 row 0 x!0@0 y!0@0
-- 9 append ok 2 row 0 x!1@1 y!1@1
-- row e a.0 a.0 x=1 y=1 final 1
-- row e b.0 b.0 x=2 y=2 final 2
-- column e x
-- 0 a propose a.0 floor 0 wants 0 stamp 1
-- 1 a settle a.0 final 1
-- 2 b propose b.0 floor 0 wants 0 stamp 2
-- 3 b settle b.0 final 2
-- = clock 2 line a.0:1,b.0:2 queue - cut 2 base 0
-- column e y
-- 0 a propose a.0 floor 0 wants 0 stamp 1
-- 1 b propose b.0 floor 0 wants 0 stamp 2
-- 2 b settle b.0 final 2
-- 3 a settle a.0 final 3
-- = clock 3 line b.0:2,a.0:3 queue - cut 2 base 0
abbrev pub two_orders : Case
two_orders = record {
  script = together (asks 8 a (Append on_both (codes "s")) ∷ asks 9 b (Append on_both (codes "t")) ∷ []);
  report = shows
      (to_both (stood ∷ []) (replies 9 words.Append (answers.Stood 2 (Some 0) (point x 2 1 ∷ point y 1 0 ∷ [])) ∷ []))
      (row e a 0 (id a 0) (marks.Number 1) (marks.Number 1) (Final 1)
      ∷ row e b 0 (id b 0) (marks.Number 2) (marks.Number 2) (Final 2) ∷ [])
      (column e x (proposes a (id a 0) 0 1 ∷ settles a (id a 0) 1 ∷ proposes b (id b 0) 0 2
      ∷ settles b (id b 0) 2 ∷ [])
      2 (key 1 (id a 0) ∷ key 2 (id b 0) ∷ []) [] (counts 2 0) (counts 0 0)
      ∷ column e y (proposes a (id a 0) 0 1 ∷ proposes b (id b 0) 0 2 ∷ settles b (id b 0) 2
      ∷ settles a (id a 0) 3 ∷ [])
      3 (key 2 (id b 0) ∷ key 3 (id a 0) ∷ []) [] (counts 2 0) (counts 0 0) ∷ []);
}

-- A SETTLING UNDER A LESSER STAMP than the open entry has
-- row e a.0 a.0 x=2 y=1 final 1
-- column e x
-- 0 b single b.0 floor 0 wants 0 stamp 1
-- 1 a propose a.0 floor 0 wants 0 stamp 2
-- 2 a settle a.0 final 1
-- = clock 2 line a.0:1,b.0:1 queue - cut 2 base 0
abbrev pub a_settling_under_a_lesser_stamp : Case
a_settling_under_a_lesser_stamp = record {
  script = together (asks 8 b (Append on_x (codes "t")) ∷ asks 9 a (Append on_both (codes "s")) ∷ []);
  report = shows
      (to_both (replies 9 words.Append (answers.Stood 1 (Some 0) (point x 1 0 ∷ point y 0 0 ∷ [])) ∷ [])
      (replies 8 words.Append (answers.Stood 1 None (point x 0 0 ∷ [])) ∷ []))
      (row e a 0 (id a 0) (marks.Number 2) (marks.Number 1) (Final 1) ∷ [])
      (column e x (enters b (id b 0) 0 1 ∷ proposes a (id a 0) 0 2 ∷ settles a (id a 0) 1 ∷ [])
      2 (key 1 (id a 0) ∷ key 1 (id b 0) ∷ []) [] (counts 2 0) (counts 0 0)
      ∷ complete y ∷ []);
}

-- = clock 1 line - queue a.0:1? cut 0 base 0
abbrev pub proposed : ℕ → ColumnReport
proposed colour = column e colour (proposes a (id a 0) 0 1
    ∷ []) 1 [] (record { key = key 1 (id a 0); settled = false } ∷ []) (counts 0 0) (counts 0 0)
