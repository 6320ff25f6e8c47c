-- Replies to an append to several colours that are unlike its row.
use Rattle.log_node.specs.declared.node.At.TheVariants.{Look}
use Rattle.std.specs.Prelude.{List, [], ◌∷◌, codes, Some, None}
use Rattle.log_node.specs.declared.marks.Mark.TheVariants as marks
use Rattle.log_node.specs.declared.marks.Outcome.{Outcome}
use Rattle.log_node.specs.declared.marks.Outcome.TheVariants.{Open, Gone, Final}
use Rattle.log_node.specs.declared.marks.Why.TheVariants.{Memory, StampEnd}
use Rattle.script_text.specs.declared.commands.What.TheVariants.{Append, Stop, Sync}
use Rattle.script_text.specs.declared.commands.Word.TheVariants as words
use Rattle.report_text.specs.declared.report.Answer.{Answer}
use Rattle.report_text.specs.declared.report.Answer.TheVariants as answers
use Rattle.report_text.specs.declared.report.ColumnReport.{ColumnReport}
use Rattle.wrong_reports.specs.Cases.{Case, a, e, x, y, id, key, counts, on_x, on_both, together, asks, replies}
use Rattle.wrong_reports.specs.Cases.{to_both, look, column, empty, enters, proposes, point, shows}
use Rattle.wrong_reports.specs.Rows.{row, settles, complete, proposed, one_append, stood, has_rows}

-- an append to both colours that is answered so, with the outcome of its row and these columns
abbrev pub answered : Answer → Outcome → List ColumnReport → Case
answered answer last columns = record {
  script = one_append;
  report = shows (to_both (replies 8 words.Append answer ∷ []) [])
      (row e a 0 (id a 0) (marks.Number 1) (marks.Number 1) last ∷ []) columns;
}

-- 8 append ok 1 row 1 x!0@0 y!0@0
abbrev pub another_rows_number : Case
another_rows_number = answered (answers.Stood 1 (Some 1) (point x 0 0 ∷ point y 0 0
    ∷ [])) (Final 1) (complete x ∷ complete y ∷ [])

-- 8 append ok 1 row 0 x!0@0
abbrev pub a_colour_without_a_point : Case
a_colour_without_a_point = answered (answers.Stood 1 (Some 0) (point x 0 0 ∷ [])) (Final 1) (complete x
    ∷ complete y ∷ [])

-- 8 append ok 1 row 0 x!0@0 y!0@0
-- row e a.0 a.0 x=1 y=1 final 1
-- column e x and column e y
-- 0 a propose a.0 floor 0 wants 0 stamp 1
-- = clock 1 line - queue a.0:1? cut 0 base 0
abbrev pub stood_before_it_is_settled : Case
stood_before_it_is_settled = answered (answers.Stood 1 (Some 0) (point x 0 0 ∷ point y 0 0
    ∷ [])) (Final 1) (proposed x ∷ proposed y ∷ [])

-- 8 append ok 1 row 0 x!0@0 y!0@0
-- row e a.0 a.0 x=1 y=1 open
abbrev pub stood_before_it_is_decided : Case
stood_before_it_is_decided = answered (answers.Stood 1 (Some 0) (point x 0 0 ∷ point y 0 0
    ∷ [])) Open (complete x ∷ complete y ∷ [])

-- 8 sync ok x?0/0 plays 0
-- row e a.0 a.0 x=- y=- open
abbrev pub a_row_that_no_command_began : Case
a_row_that_no_command_began = record {
  script = together (asks 8 a (Sync x) ∷ []);
  report = shows (to_both (replies 8 words.Sync (answers.Synced (look x 0 (counts 0 0)) 0) ∷ []) [])
      (row e a 0 (id a 0) marks.None marks.None Open ∷ []) (empty e x ∷ empty e y ∷ []);
}

-- 8 append ok 1 row 0 x!0@0 y!0@0
-- 9 append ok 2 x!2@1
-- column e x
-- 0 a propose a.0 floor 0 wants 0 stamp 1
-- 1 a settle a.0 final 1
-- 2 a single a.1 floor 0 wants 0 stamp 2
-- = clock 2 line a.0:1,a.1:2 queue - cut 2 base 0
abbrev pub an_append_to_several_that_leaves_the_floor : Case
an_append_to_several_that_leaves_the_floor = record {
  script = together (asks 8 a (Append on_both (codes "s")) ∷ asks 9 a (Append on_x (codes "t")) ∷ []);
  report = shows (to_both (stood ∷ replies 9 words.Append (answers.Stood 2 None (point x 2 1 ∷ [])) ∷ []) [])
      (row e a 0 (id a 0) (marks.Number 1) (marks.Number 1) (Final 1) ∷ [])
      (column e x (proposes a (id a 0) 0 1 ∷ settles a (id a 0) 1 ∷ enters a (id a 1) 0 2 ∷ []) 2
      (key 1 (id a 0) ∷ key 2 (id a 1) ∷ []) [] (counts 2 0) (counts 0 0) ∷ complete y ∷ []);
}

-- 8 append ok 1 row 0 x!0@0 y!0@0
-- 9 sync ok x?1/0 plays 0
abbrev pub a_look_before_its_own_settling : Case
a_look_before_its_own_settling = record {
  script = together (asks 8 a (Append on_both (codes "s")) ∷ asks 9 a (Sync x) ∷ []);
  report = shows (to_both (stood ∷ replies 9 words.Sync (answers.Synced (look x 1 (counts 0 0)) 0) ∷ []) [])
      (row e a 0 (id a 0) (marks.Number 1) (marks.Number 1) (Final 1) ∷ []) (complete x ∷ complete y ∷ []);
}

-- 8 append ok 1 row 0 x?1@0 y!0@0
abbrev pub its_own_proposal_told_as_a_look : Case
its_own_proposal_told_as_a_look =
    answered (answers.Stood 1 (Some 0) (record { colour = x; at = Look 1; position = 0 } ∷ point y 0 0
    ∷ [])) (Final 1) (complete x ∷ complete y ∷ [])

-- 8 append nomemory
-- row e a.0 a.0 x=1 y=1 final 1
abbrev pub no_memory_for_what_stands : Case
no_memory_for_what_stands = answered answers.NoMemory (Final 1) (complete x ∷ complete y ∷ [])

-- THE STAMPS' END
-- 8 append stampend y
-- row e a.0 a.0 x=stampend y=stampend gone stampend
abbrev pub the_stamps_end_of_a_greater_colour : Case
the_stamps_end_of_a_greater_colour = record {
  script = one_append;
  report = shows (to_both (replies 8 words.Append (answers.StampEnd y) ∷ []) [])
      (row e a 0 (id a 0) (marks.Fenced StampEnd) (marks.Fenced StampEnd) (Gone StampEnd) ∷ [])
      (empty e x ∷ empty e y ∷ []);
}

-- ROWS AND THEIR NODES
-- 8 append ok 1 x!0@0
-- row e a.0 a.0 x=- y=- open
abbrev pub a_single_with_a_rows_node : Case
a_single_with_a_rows_node = record {
  script = together (asks 8 a (Append on_x (codes "s")) ∷ []);
  report = shows (to_both (replies 8 words.Append (answers.Stood 1 None (point x 0 0 ∷ [])) ∷ []) [])
      (row e a 0 (id a 0) marks.None marks.None Open ∷ [])
      (column e x (enters a (id a 0) 0 1 ∷ []) 1 (key 1 (id a 0) ∷ []) [] (counts 1 0) (counts 0 0) ∷ empty e y ∷ []);
}

-- 8 append ok 1 row 0 x!0@0 y!0@0
-- row e a.0 a.1 x=1 y=1 final 1
abbrev pub a_row_of_an_unknown_node : Case
a_row_of_an_unknown_node = has_rows (row e a 0 (id a 1) (marks.Number 1) (marks.Number 1) (Final 1) ∷ [])

-- 8 append ok 1 row 0 x!0@0 y!0@0
-- 9 append full 0
abbrev pub full_of_another_number : Case
full_of_another_number = record {
  script = together (asks 8 a (Append on_both (codes "s")) ∷ asks 9 a (Append on_both (codes "t")) ∷ []);
  report = shows (to_both (stood ∷ replies 9 words.Append (answers.Full 0) ∷ []) [])
      (row e a 0 (id a 0) (marks.Number 1) (marks.Number 1) (Final 1) ∷ []) (complete x ∷ complete y ∷ []);
}

-- 8 append ok 2 row 0 x!0@0 y!0@0
-- row e a.0 a.0 x=2 y=1 final 2
-- column e x
-- 0 a propose a.0 floor 1 wants 0 stamp 2
-- 1 a settle a.0 final 2
-- = clock 2 line a.0:2 queue - cut 1 base 0
-- column e y
-- 0 a propose a.0 floor 0 wants 0 stamp 1
-- 1 a settle a.0 final 2
-- = clock 2 line a.0:2 queue - cut 1 base 0
abbrev pub a_proposal_over_another_floor : Case
a_proposal_over_another_floor = record {
  script = one_append;
  report = shows (to_both (replies 8 words.Append (answers.Stood 2 (Some 0) (point x 0 0 ∷ point y 0 0 ∷ [])) ∷ []) [])
      (row e a 0 (id a 0) (marks.Number 2) (marks.Number 1) (Final 2) ∷ [])
      (column e x (proposes a (id a 0) 1 2 ∷ settles a (id a 0) 2 ∷ []) 2 (key 2 (id a 0) ∷ []) [] (counts 1 0)
      (counts 0 0)
      ∷ column e y (proposes a (id a 0) 0 1 ∷ settles a (id a 0) 2 ∷ []) 2 (key 2 (id a 0) ∷ []) [] (counts 1 0)
      (counts 0 0) ∷ []);
}

-- 8 append nomemory
-- 9 stop stopped 0
-- row e a.0 a.0 x=1 y=memory gone memory
-- column e x
-- 0 a propose a.0 floor 0 wants 0 stamp 1
-- = clock 1 line - queue a.0:1? cut 0 base 0
abbrev pub no_memory_for_what_is_open : Case
no_memory_for_what_is_open = record {
  script = together (asks 8 a (Append on_both (codes "s")) ∷ asks 9 a (Stop 0 on_both (codes "t")) ∷ []);
  report = shows (to_both (replies 8 words.Append answers.NoMemory ∷ replies 9 words.Stop (answers.Stopped 0) ∷ []) [])
      (row e a 0 (id a 0) (marks.Number 1) (marks.Fenced Memory) (Gone Memory) ∷ []) (proposed x ∷ empty e y ∷ []);
}
