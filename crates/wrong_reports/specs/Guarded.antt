-- Reports of appends that are made only where nothing has come between, which are wrong.
use Rattle.std.specs.Prelude.{ℕ, List, [], ◌∷◌, codes, None}
use Rattle.log_node.specs.declared.marks.Why.TheVariants.{Memory}
use Rattle.log_node.specs.declared.marks.Mark.TheVariants as marks
use Rattle.log_node.specs.declared.marks.Outcome.TheVariants.{Gone, Final}
use Rattle.col_core.specs.declared.Event.TheVariants.{Settle}
use Rattle.script_text.specs.declared.commands.What.TheVariants.{Append, Stop, Only}
use Rattle.script_text.specs.declared.commands.Word.TheVariants as words
use Rattle.script_text.specs.declared.script.Command.{Command}
use Rattle.report_text.specs.declared.report.Answer.TheVariants as answers
use Rattle.report_text.specs.declared.report.ColumnReport.{ColumnReport}
use Rattle.wrong_reports.specs.Cases.{Case, a, b, e, x, y, id, key, counts, on_x, on_both, script, together, asks, replies}
use Rattle.wrong_reports.specs.Cases.{to_both, empty, column, by, enters, proposes, point, shows}
use Rattle.wrong_reports.specs.Columns.{stood, single, one_node}
use Rattle.wrong_reports.specs.Naming.{case}
use Rattle.wrong_reports.specs.Rows.{row}
use Rattle.wrong_reports.specs.Helping.{helped_by_b}

-- the script and the report in the second version
abbrev pub second : Case → Case
second case = record {
  script = record case.script { version = 2 };
  report = record case.report { version = 2 };
}

-- 6 a append x s
-- 7 a only x t
abbrev pub append_and_only : List Command
append_and_only = asks 6 a (Append on_x (codes "s")) ∷ asks 7 a (Only x (codes "t")) ∷ []

-- 0 a single a.0 floor 0 wants 0 stamp 1
-- 1 a single a.1 floor 1 wants 0 stamp 2
-- = clock 2 line a.0:1,a.1:2 queue - cut 2 base 0
abbrev pub two_nodes : ColumnReport
two_nodes =
    column e x (single ∷ enters a (id a 1) 1 2 ∷ []) 2 (key 1 (id a 0) ∷ key 2 (id a 1) ∷ []) [] (counts 2 0) (counts 0 0)

-- 6 append ok 1 x!0@0
-- 7 only ok 2 x!1@1
abbrev pub an_only_that_was_not_next : Case
an_only_that_was_not_next =
    second (case append_and_only (stood ∷ replies 7 words.Only (answers.Stood 2 None (point x 1 1 ∷ [])) ∷ []) two_nodes)

-- 0 b propose b.0 floor 0 wants 0 stamp 1
-- 1 a single a.0 floor 0 wants 0 stamp 2
-- 2 b settle b.0 gone
-- = clock 2 line a.0:2 queue - cut 1 base 0
abbrev pub beside_open : ColumnReport
beside_open =
    column e x (proposes b (id b 0) 0 1 ∷ enters a (id a 0) 0 2 ∷ by b (Settle (id b 0) (Gone Memory)) 0 ∷ []) 2
    (key 2 (id a 0) ∷ []) [] (counts 1 0) (counts 0 0)

-- 8 b append x,y t
-- 9 a only x s
-- 8 append nomemory
-- 9 only ok 2 x!1@0
-- row e b.0 b.0 x=1 y=memory gone memory
abbrev pub an_only_beside_an_open_entry : Case
an_only_beside_an_open_entry = second (record {
  script = together (asks 8 b (Append on_both (codes "t")) ∷ asks 9 a (Only x (codes "s")) ∷ []);
  report = shows (to_both (replies 9 words.Only (answers.Stood 2 None (point x 1 0 ∷ [])) ∷ [])
      (replies 8 words.Append answers.NoMemory ∷ []))
      (row e b 0 (id b 0) (marks.Number 1) (marks.Fenced Memory) (Gone Memory) ∷ []) (beside_open ∷ empty e y ∷ []);
})

-- 6 a only x s
-- 6 only moved 0 0 x?0
abbrev pub a_moved_that_was_not : Case
a_moved_that_was_not =
    second (case (asks 6 a (Only x (codes "s")) ∷ []) (replies 6 words.Only (answers.Moved 0 0 x 0) ∷ []) (empty e x))

-- an append that stood, and an append that is told that the colour has moved
abbrev pub told_moved : ℕ → ℕ → ℕ → Case
told_moved lined waiting events =
    second (case append_and_only (stood ∷ replies 7 words.Only (answers.Moved lined waiting x events) ∷ []) one_node)

-- 7 only moved 2 0 x?1
abbrev pub moved_to_another_length : Case
moved_to_another_length = told_moved 2 0 1

-- 7 only moved 1 1 x?1
abbrev pub moved_by_another_number : Case
moved_by_another_number = told_moved 1 1 1

-- 7 only moved 1 0 x?2
abbrev pub moved_beyond_the_events : Case
moved_beyond_the_events = told_moved 1 0 2

-- 6 a append x s
-- 7 a append x t
-- 8 a only x u
-- 6 append ok 1 x!0@0
-- 7 append ok 2 x!1@1
-- 8 only moved 1 0 x?1
abbrev pub moved_behind_what_was_seen : Case
moved_behind_what_was_seen =
    second (case (asks 6 a (Append on_x (codes "s")) ∷ asks 7 a (Append on_x (codes "t")) ∷ asks 8 a (Only x (codes "u"))
    ∷ [])
    (stood ∷ replies 7 words.Append (answers.Stood 2 None (point x 1 1 ∷ [])) ∷ replies 8 words.Only (answers.Moved 1 0 x 1)
    ∷ []) two_nodes)

-- 7 b append x s
-- 8 a append x t
-- 7 append ok 1 x!0@0
-- 8 append moved 1 0 x?1
-- column e x
-- 0 b single b.0 floor 0 wants 0 stamp 1
-- = clock 1 line b.0:1 queue - cut 1 base 0
abbrev pub an_append_told_moved : Case
an_append_told_moved = second (record {
  script = script 1 1 (e ∷ e ∷ []) [] (asks 7 b (Append on_x (codes "s")) ∷ asks 8 a (Append on_x (codes "t")) ∷ []);
  report = shows (to_both (replies 8 words.Append (answers.Moved 1 0 x 1) ∷ [])
      (replies 7 words.Append (answers.Stood 1 None (point x 0 0 ∷ [])) ∷ [])) []
      (column e x (enters b (id b 0) 0 1 ∷ []) 1 (key 1 (id b 0) ∷ []) [] (counts 1 0) (counts 0 0) ∷ []);
})

-- 8 a stop 3 x,y s
-- 9 b only x t
-- 8 stop stopped 3
-- 9 only moved 1 0 x?2
-- row e a.0 a.0 x=1 y=1 final 1
-- column e x and column e y
-- 0 a propose a.0 floor 0 wants 0 stamp 1
-- 1 b settle a.0 final 1
-- = clock 1 line a.0:1 queue - cut 1 base 0
abbrev pub one_who_appends_only_helps : Case
one_who_appends_only_helps = second (record {
  script = together (asks 8 a (Stop 3 on_both (codes "s")) ∷ asks 9 b (Only x (codes "t")) ∷ []);
  report = shows (to_both (replies 8 words.Stop (answers.Stopped 3) ∷ [])
      (replies 9 words.Only (answers.Moved 1 0 x 2) ∷ []))
      (row e a 0 (id a 0) (marks.Number 1) (marks.Number 1) (Final 1) ∷ []) (helped_by_b x ∷ helped_by_b y ∷ []);
})
