-- Reports with phantoms, with appends that stop and go on, and with wrong helpers.
use Rattle.log_node.specs.declared.marks.Mark.{Mark}
use Rattle.std.specs.Prelude.{ℕ, [], ◌∷◌, codes, None, false}
use Rattle.log_node.specs.declared.marks.Mark.TheVariants as marks
use Rattle.log_node.specs.declared.marks.Outcome.{Outcome}
use Rattle.log_node.specs.declared.marks.Outcome.TheVariants.{Open, Final}
use Rattle.script_text.specs.declared.commands.What.TheVariants.{Append, Stop, Sync}
use Rattle.script_text.specs.declared.commands.Word.TheVariants as words
use Rattle.report_text.specs.declared.report.Answer.TheVariants as answers
use Rattle.report_text.specs.declared.report.ColumnReport.{ColumnReport}
use Rattle.wrong_reports.specs.Cases.{Case, a, b, e, w, x, y, id, key, counts, on_x, on_y, on_both, together, script}
use Rattle.wrong_reports.specs.Cases.{asks, replies, to_both, column, empty, enters, proposes, point, shows}
use Rattle.wrong_reports.specs.Rows.{row, settles, proposed}

-- PHANTOMS: a row, and a node in both lines, that no command of the script made
-- 7 append nomemory
-- row w CLIENT.0 CLIENT.0 x=1 y=1 final 1
-- column w x and column w y
-- 0 b propose CLIENT.0 floor 0 wants 0,0 stamp 1
-- 1 b settle CLIENT.0 final 1
-- = clock 1 line CLIENT.0:1 queue - cut 0,1 base 0,0
abbrev pub phantom_in : ℕ → ℕ → ColumnReport
phantom_in client colour = column w colour (proposes b (id client 0) 0 1 ∷ settles b (id client 0) 1 ∷ []) 1
    (key 1 (id client 0) ∷ []) [] (counts 0 1) (counts 0 0)

-- a row of a client that asked for no append
abbrev pub phantom : ℕ → Case
phantom client = record {
  script = script 2 2 (e ∷ w ∷ []) [] (asks 7 b (Append on_x (codes "s")) ∷ []);
  report = shows (to_both [] (replies 7 words.Append answers.NoMemory ∷ []))
      (row w client 0 (id client 0) (marks.Number 1) (marks.Number 1) (Final 1) ∷ [])
      (empty e x ∷ empty e y ∷ phantom_in client x ∷ phantom_in client y ∷ []);
}

-- of the client a, who gave no command and is of the other region
abbrev pub a_phantom_of_another_region : Case
a_phantom_of_another_region = phantom a

-- of a client that the script lacks
abbrev pub a_phantom_of_nobody : Case
a_phantom_of_nobody = phantom 2

-- STOPS
-- 8 stop stopped 1
-- row e a.0 a.0 x=1 y=- open
-- column e x
-- 0 a propose a.0 floor 0 wants 0 stamp 1
-- = clock 1 line - queue a.0:1? cut 0 base 0
abbrev pub a_stopped_append_that_goes_on : Case
a_stopped_append_that_goes_on = record {
  script = together (asks 8 a (Stop 1 on_both (codes "s")) ∷ []);
  report = shows (to_both (replies 8 words.Stop (answers.Stopped 1) ∷ []) [])
      (row e a 0 (id a 0) (marks.Number 1) marks.None Open ∷ []) (proposed x ∷ empty e y ∷ []);
}

-- 8 stop stopped 2
-- row e a.0 a.0 x=- y=- open
abbrev pub a_stop_before_its_steps : Case
a_stop_before_its_steps = record {
  script = together (asks 8 a (Stop 2 on_both (codes "s")) ∷ []);
  report = shows (to_both (replies 8 words.Stop (answers.Stopped 2) ∷ []) [])
      (row e a 0 (id a 0) marks.None marks.None Open ∷ []) (empty e x ∷ empty e y ∷ []);
}

-- a stop with a proposal in both colours
abbrev pub stops_proposed : ℕ → Outcome → Case
stops_proposed steps last = record {
  script = together (asks 8 a (Stop steps on_both (codes "s")) ∷ []);
  report = shows (to_both (replies 8 words.Stop (answers.Stopped steps) ∷ []) [])
      (row e a 0 (id a 0) (marks.Number 1) (marks.Number 1) last ∷ []) (proposed x ∷ proposed y ∷ []);
}

-- 8 stop stopped 4
-- row e a.0 a.0 x=1 y=1 open
abbrev pub a_stop_before_its_decision : Case
a_stop_before_its_decision = stops_proposed 4 Open

-- 8 stop stopped 5
-- row e a.0 a.0 x=1 y=1 final 1
-- column e x and column e y
-- 0 a propose a.0 floor 0 wants 0 stamp 1
-- = clock 1 line - queue a.0:1? cut 0 base 0
abbrev pub a_stop_before_its_settling : Case
a_stop_before_its_settling = stops_proposed 5 (Final 1)

-- 8 stop stopped 2
abbrev pub a_stop_after_other_steps : Case
a_stop_after_other_steps = record {
  script = together (asks 8 a (Stop 1 on_both (codes "s")) ∷ []);
  report = shows (to_both (replies 8 words.Stop (answers.Stopped 2) ∷ []) [])
      (row e a 0 (id a 0) (marks.Number 1) marks.None Open ∷ []) (proposed x ∷ empty e y ∷ []);
}

-- 8 stop stampend x
abbrev pub a_stop_for_the_stamps_end : Case
a_stop_for_the_stamps_end = record {
  script = together (asks 8 a (Stop 0 on_both (codes "s")) ∷ []);
  report = shows (to_both (replies 8 words.Stop (answers.StampEnd x) ∷ []) []) [] (empty e x ∷ empty e y ∷ []);
}

-- after a stop the client syncs y
abbrev pub goes_on_to_sync : ℕ → Mark → ColumnReport → Case
goes_on_to_sync steps of_x column_x = record {
  script = together (asks 8 a (Stop steps on_both (codes "s")) ∷ asks 9 a (Sync y) ∷ []);
  report = shows (to_both (replies 8 words.Stop (answers.Stopped steps)
      ∷ replies 9 words.Sync (answers.Synced (record { colour = y; events = 0; counts = counts 0 0 }) 0) ∷ []) [])
      (row e a 0 (id a 0) of_x marks.None Open ∷ []) (column_x ∷ empty e y ∷ []);
}

-- 8 stop stopped 2
-- 9 sync ok y?0/0 plays 0
-- row e a.0 a.0 x=1 y=- open
-- column e x
-- 0 a propose a.0 floor 0 wants 0 stamp 1
-- = clock 1 line - queue a.0:1? cut 0 base 0
abbrev pub left_open_by_one_who_did_not_stop : Case
left_open_by_one_who_did_not_stop = goes_on_to_sync 2 (marks.Number 1) (proposed x)

-- 8 stop stopped 1
-- 9 sync ok y?0/0 plays 0
-- row e a.0 a.0 x=- y=- open
abbrev pub a_row_left_open : Case
a_row_left_open = goes_on_to_sync 1 marks.None (empty e x)

-- HELPING
-- a stopped after the proposals in x and y, and b settled the node
abbrev pub helped_by_b : ℕ → ColumnReport
helped_by_b colour = column e colour (proposes a (id a 0) 0 1 ∷ settles b (id a 0) 1 ∷ []) 1 (key 1 (id a 0)
    ∷ []) [] (counts 1 0) (counts 0 0)

-- 8 stop stopped 3
-- 9 sync ok x?0/0 plays 0
-- row e a.0 a.0 x=1 y=1 final 1
-- column e x and column e y
-- 0 a propose a.0 floor 0 wants 0 stamp 1
-- 1 b settle a.0 final 1
-- = clock 1 line a.0:1 queue - cut 1 base 0
abbrev pub one_who_only_syncs_helps : Case
one_who_only_syncs_helps = record {
  script = together (asks 8 a (Stop 3 on_both (codes "s")) ∷ asks 9 b (Sync x) ∷ []);
  report = shows (to_both (replies 8 words.Stop (answers.Stopped 3) ∷ [])
      (replies 9 words.Sync (answers.Synced (record { colour = x; events = 0; counts = counts 0 0 }) 0) ∷ []))
      (row e a 0 (id a 0) (marks.Number 1) (marks.Number 1) (Final 1) ∷ []) (helped_by_b x ∷ helped_by_b y ∷ []);
}

-- 8 stop stopped 3
-- 9 stop stopped 1
-- row e a.0 a.0 x=1 y=1 final 1
-- row e b.0 b.0 x=- y=- open
-- column e x and column e y as before
abbrev pub one_who_only_stops_helps : Case
one_who_only_stops_helps = record {
  script = together (asks 8 a (Stop 3 on_both (codes "s")) ∷ asks 9 b (Stop 1 on_both (codes "t")) ∷ []);
  report = shows (to_both (replies 8 words.Stop (answers.Stopped 3) ∷ []) (replies 9 words.Stop (answers.Stopped 1) ∷ []))
      (row e a 0 (id a 0) (marks.Number 1) (marks.Number 1) (Final 1)
      ∷ row e b 0 (id b 0) marks.None marks.None Open ∷ []) (helped_by_b x ∷ helped_by_b y ∷ []);
}

-- as the first, by a client of the region w, who appends there
abbrev pub one_of_another_region_helps : Case
one_of_another_region_helps = record {
  script = script 2 2 (e ∷ w ∷ []) [] (asks 8 a (Stop 3 on_both (codes "s"))
      ∷ asks 9 b (Append on_x (codes "t")) ∷ []);
  report = shows (to_both (replies 8 words.Stop (answers.Stopped 3)
      ∷ []) (replies 9 words.Append answers.NoMemory ∷ []))
      (row e a 0 (id a 0) (marks.Number 1) (marks.Number 1) (Final 1) ∷ [])
      (helped_by_b x ∷ helped_by_b y ∷ empty w x ∷ empty w y ∷ []);
}

-- 8 stop stopped 2
-- 9 append ok 1 y!0@0
-- row e a.0 a.0 x=1 y=2 open
-- column e x
-- 0 a propose a.0 floor 0 wants 0 stamp 1
-- = clock 1 line - queue a.0:1? cut 0 base 0
-- column e y
-- 0 b single b.0 floor 0 wants 0 stamp 1
-- 1 b propose a.0 floor 0 wants 0 stamp 2
-- = clock 2 line b.0:1 queue a.0:2? cut 1 base 0
abbrev pub a_helped_append_left_open : Case
a_helped_append_left_open = record {
  script = together (asks 8 a (Stop 2 on_both (codes "s")) ∷ asks 9 b (Append on_y (codes "t")) ∷ []);
  report = shows (to_both (replies 8 words.Stop (answers.Stopped 2) ∷ [])
      (replies 9 words.Append (answers.Stood 1 None (point y 0 0 ∷ [])) ∷ []))
      (row e a 0 (id a 0) (marks.Number 1) (marks.Number 2) Open ∷ [])
      (proposed x ∷ column e y (enters b (id b 0) 0 1 ∷ proposes b (id a 0) 0 2 ∷ []) 2 (key 1 (id b 0) ∷ [])
      (record { key = key 2 (id a 0); settled = false } ∷ []) (counts 1 0) (counts 0 0) ∷ []);
}

-- 8 stop stopped 3
-- 9 append nomemory
-- row e a.0 a.0 x=1 y=1 final 1
-- column e x
-- 0 a propose a.0 floor 0 wants 0 stamp 1
-- 1 b settle a.0 final 1
-- = clock 1 line a.0:1 queue - cut 1 base 0
-- column e y
-- 0 a propose a.0 floor 0 wants 0 stamp 1
-- = clock 1 line - queue a.0:1? cut 0 base 0
abbrev pub a_helped_append_open_in_a_colour : Case
a_helped_append_open_in_a_colour = record {
  script = together (asks 8 a (Stop 3 on_both (codes "s")) ∷ asks 9 b (Append on_x (codes "t")) ∷ []);
  report = shows (to_both (replies 8 words.Stop (answers.Stopped 3) ∷ []) (replies 9 words.Append answers.NoMemory
      ∷ []))
      (row e a 0 (id a 0) (marks.Number 1) (marks.Number 1) (Final 1) ∷ []) (helped_by_b x ∷ proposed y ∷ []);
}
