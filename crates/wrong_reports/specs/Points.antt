-- Reports of appends that tell a wrong place: another's event, another event of their own, one that was seen.
use Rattle.std.specs.Prelude.{ℕ, List, [], ◌∷◌, codes, Some, None}
use Rattle.log_node.specs.declared.node.At.{At}
use Rattle.log_node.specs.declared.node.At.TheVariants.{Event, Look}
use Rattle.log_node.specs.declared.marks.Mark.TheVariants as marks
use Rattle.log_node.specs.declared.marks.Outcome.TheVariants.{Final}
use Rattle.col_core.specs.declared.Event.TheVariants.{Give}
use Rattle.script_text.specs.declared.commands.What.TheVariants.{Append, Pull}
use Rattle.script_text.specs.declared.commands.Word.TheVariants as words
use Rattle.report_text.specs.declared.report.Answer.TheVariants as answers
use Rattle.report_text.specs.declared.report.ReplyLine.{ReplyLine}
use Rattle.report_text.specs.declared.report.PointPiece.{PointPiece}
use Rattle.report_text.specs.declared.report.ColumnReport.{ColumnReport}
use Rattle.wrong_reports.specs.Cases.{Case, a, b, e, w, x, y, id, key, counts, on_x, on_both, script, together, apart}
use Rattle.wrong_reports.specs.Cases.{asks, replies, to_both, point, by, enters, proposes, column, empty, shows}
use Rattle.wrong_reports.specs.Naming.{case, append, stood_at, one_node}
use Rattle.wrong_reports.specs.Shown.{shown}
use Rattle.wrong_reports.specs.Rows.{row, settles, complete}
use Rattle.wrong_reports.specs.Several.{answered}
use Rattle.wrong_reports.specs.Moves.{pulled}

-- APPENDS TO ONE COLOUR
-- 8 a append x s
-- 8 append ok 1 y!0@0
-- column e y
-- 0 a single a.0 floor 0 wants 0 stamp 1
-- = clock 1 line a.0:1 queue - cut 1 base 0
abbrev pub an_append_in_another_colour : Case
an_append_in_another_colour = record {
  script = together (asks 8 a (Append on_x (codes "s")) ∷ []);
  report = shows (to_both (replies 8 words.Append (answers.Stood 1 None (point y 0 0 ∷ [])) ∷ []) []) []
      (empty e x ∷ column e y (enters a (id a 0) 0 1 ∷ []) 1 (key 1 (id a 0) ∷ []) [] (counts 1 0) (counts 0 0) ∷ []);
}

-- after so many events the node stands at the position
abbrev pub point_seen : ℕ → ℕ → ℕ → PointPiece
point_seen colour events position = record { colour = colour; at = Look events; position = position }

-- 6 append ok 1 x?1@0
-- column e x
-- 0 a single a.0 floor 0 wants 0 stamp 1
-- = clock 1 line a.0:1 queue - cut 1 base 0
abbrev pub a_single_told_as_a_look : Case
a_single_told_as_a_look = case (append 6 ∷ [])
    (replies 6 words.Append (answers.Stood 1 None (point_seen x 1 0 ∷ [])) ∷ []) one_node

-- 6 append ok 1 x!0@0
-- + a.0 1 s
abbrev pub an_append_that_shows_a_node : Case
an_append_that_shows_a_node =
    case (append 6 ∷ []) (record (stood_at 6 1 0 0) { nodes = shown 1 (codes "s") ∷ [] } ∷ []) one_node

-- of the region e, where a pulls of w first and so looks at two events of x
abbrev pub looked_first : List ReplyLine → List ColumnReport → Case
looked_first lines columns = record {
  script = script 2 2 (e ∷ e ∷ []) [] (asks 8 a (Pull w x) ∷ asks 9 a (Append on_both (codes "s"))
      ∷ asks 10 b (Append on_x (codes "t")) ∷ []);
  report = shows (to_both (pulled 8 0 0 (Look 2) ∷ lines) (replies 10 words.Append answers.NoMemory ∷ []))
      (row e a 0 (id a 0) (marks.Number 1) (marks.Number 1) (Final 1) ∷ [])
      columns;
}

-- column w x
-- 0 a give e 0
-- = clock 0 line - queue - cut 0,0 base 0,0
abbrev pub gives_nothing : ColumnReport
gives_nothing = column w x (by a (Give e 0) 0 ∷ []) 0 [] [] (counts 0 0) (counts 0 0)

-- 8 pull ok 0 give !0 carry ?1
-- 9 append ok 1 x!0@0
-- column e x
-- 0 a single a.0 floor 0 wants 0,0 stamp 1
-- = clock 1 line a.0:1 queue - cut 1,0 base 0,0
-- column w x
-- 0 a give e 0
-- = clock 0 line - queue - cut 0,0 base 0,0
abbrev pub an_append_of_what_was_seen : Case
an_append_of_what_was_seen = record {
  script = apart (asks 8 a (Pull w x) ∷ asks 9 a (Append on_x (codes "s")) ∷ []);
  report = shows (to_both (pulled 8 0 0 (Look 1) ∷ stood_at 9 1 0 0 ∷ []) []) [] (one_node ∷ gives_nothing ∷ []);
}

-- APPENDS TO SEVERAL COLOURS
-- 8 append ok 1 x!0@0 y!0@0
abbrev pub a_row_that_is_not_told : Case
a_row_that_is_not_told = answered (answers.Stood 1 None (point x 0 0 ∷ point y 0 0 ∷ [])) (Final 1)
    (complete x ∷ complete y ∷ [])

-- 8 append ok 1 row 0 x!1@0 y!0@0
abbrev pub a_settling_told_as_the_proposal : Case
a_settling_told_as_the_proposal = answered (answers.Stood 1 (Some 0) (point x 1 0 ∷ point y 0 0 ∷ [])) (Final 1)
    (complete x ∷ complete y ∷ [])

-- column e x
-- 0 b propose a.0 floor 0 wants 0 stamp 1
-- 1 a settle a.0 final 1
-- = clock 1 line a.0:1 queue - cut 1 base 0
abbrev pub proposed_by_b : ColumnReport
proposed_by_b = column e x (proposes b (id a 0) 0 1 ∷ settles a (id a 0) 1 ∷ []) 1 (key 1 (id a 0)
    ∷ []) [] (counts 1 0) (counts 0 0)

-- 8 append ok 1 row 0 xAT@0 y!0@0
-- 9 append nomemory
abbrev pub helped_in_x : At → Case
helped_in_x at = record {
  script = together (asks 8 a (Append on_both (codes "s")) ∷ asks 9 b (Append on_x (codes "t")) ∷ []);
  report = shows (to_both (replies 8 words.Append (answers.Stood 1 (Some 0)
      (record { colour = x; at = at; position = 0 } ∷ point y 0 0 ∷ [])) ∷ [])
      (replies 9 words.Append answers.NoMemory ∷ []))
      (row e a 0 (id a 0) (marks.Number 1) (marks.Number 1) (Final 1) ∷ []) (proposed_by_b ∷ complete y ∷ []);
}

-- x!0
abbrev pub anothers_proposal_told_as_its_own : Case
anothers_proposal_told_as_its_own = helped_in_x (Event 0)

-- x?0
abbrev pub a_look_before_the_proposal : Case
a_look_before_the_proposal = helped_in_x (Look 0)

-- x?3
abbrev pub a_point_beyond_the_events : Case
a_point_beyond_the_events = helped_in_x (Look 3)

-- 8 pull ok 0 give !0 carry ?2
-- 9 append ok 1 row 0 x!0@0 y!0@0
-- 10 append nomemory
-- column e x
-- 0 a propose a.0 floor 0 wants 0,0 stamp 1
-- 1 a settle a.0 final 1
-- = clock 1 line a.0:1 queue - cut 1,0 base 0,0
abbrev pub a_proposal_that_was_seen : Case
a_proposal_that_was_seen = looked_first
    (replies 9 words.Append (answers.Stood 1 (Some 0) (point x 0 0 ∷ point y 0 0 ∷ [])) ∷ [])
    (complete x ∷ complete y ∷ gives_nothing ∷ empty w y ∷ [])

-- 8 pull ok 0 give !0 carry ?2
-- 9 append ok 1 row 0 x?1@0 y!0@0
-- 10 append nomemory
-- column e x
-- 0 b propose a.0 floor 0 wants 0,0 stamp 1
-- 1 a settle a.0 final 1
-- = clock 1 line a.0:1 queue - cut 1,0 base 0,0
abbrev pub a_point_behind_what_was_seen : Case
a_point_behind_what_was_seen = looked_first
    (replies 9 words.Append (answers.Stood 1 (Some 0) (point_seen x 1 0 ∷ point y 0 0 ∷ [])) ∷ [])
    (proposed_by_b ∷ complete y ∷ gives_nothing ∷ empty w y ∷ [])
