-- Reports of syncs, reads, pulls and trims that look elsewhere or at another time than they may.
use Rattle.std.specs.Prelude.{ℕ, ◌+◌, List, [], ◌∷◌, ◌++◌, codes, Some, None}
use Rattle.log_node.specs.declared.ids.Colours.{Colours}
use Rattle.log_node.specs.declared.node.At.TheVariants.{Event, Look}
use Rattle.log_node.specs.declared.marks.Mark.TheVariants as marks
use Rattle.log_node.specs.declared.marks.Why.TheVariants.{Memory}
use Rattle.log_node.specs.declared.marks.Outcome.TheVariants.{Open, Gone, Final}
use Rattle.col_core.specs.declared.Event.TheVariants as made
use Rattle.col_core.specs.declared.Entry.{Entry}
use Rattle.script_text.specs.declared.script.Command.{Command}
use Rattle.script_text.specs.declared.commands.What.TheVariants as whats
use Rattle.script_text.specs.declared.commands.Word.TheVariants as words
use Rattle.report_text.specs.declared.report.Answer.{Answer}
use Rattle.report_text.specs.declared.report.Answer.TheVariants as answers
use Rattle.report_text.specs.declared.report.ColumnReport.{ColumnReport}
use Rattle.report_text.specs.declared.report.ReplyLine.{ReplyLine}
use Rattle.script_text.specs.declared.script.Kind.{Kind}
use Rattle.script_text.specs.declared.script.Kind.TheVariants as kinds
use Rattle.script_text.specs.declared.commands.What.{What}
use Rattle.script_text.specs.declared.commands.Word.{Word}
use Rattle.wrong_reports.specs.Cases.{Case, a, b, e, w, x, y, id, key, counts, on_x, on_y, on_both, together, apart, asks}
use Rattle.wrong_reports.specs.Cases.{replies, script, to_both, look, column, empty, by, enters, proposes, trims, point, shows}
use Rattle.wrong_reports.specs.Naming.{case, append, stood_at, one_node, trim, trimmed, trimmed_at}
use Rattle.wrong_reports.specs.Shown.{shown, one_play}
use Rattle.wrong_reports.specs.Rows.{row, settles, stood, proposed}
use Rattle.wrong_reports.specs.Reads.{raise, scanned, scan}
use Rattle.wrong_reports.specs.Moves.{pulled, given_from, carried_one}
use Rattle.wrong_reports.specs.Objects.{map, queue, tx, over, one_pair, read_at}
use Rattle.wrong_reports.specs.Points.{gives_nothing}
use Rattle.wrong_reports.specs.Hidden.{raised, one_of, shown_of_b}

-- SYNCS AND SCANS
-- 8 a sync x
-- 8 sync ok y?0/0 plays 0
abbrev pub a_sync_of_another_colour : Case
a_sync_of_another_colour = record {
  script = together (asks 8 a (whats.Sync x) ∷ []);
  report = shows (to_both (replies 8 words.Sync (answers.Synced (look y 0 (counts 0 0)) 0) ∷ []) []) []
      (empty e x ∷ empty e y ∷ []);
}

-- 8 sync ok x?1/0 plays 0
-- 9 stop stopped 2
-- row e a.0 a.0 x=1 y=- open
-- column e x
-- 0 a propose a.0 floor 0 wants 0 stamp 1
-- = clock 1 line - queue a.0:1? cut 0 base 0
abbrev pub a_sync_behind_an_own_later_step : Case
a_sync_behind_an_own_later_step = record {
  script = together (asks 8 a (whats.Sync x) ∷ asks 9 a (whats.Stop 2 on_both (codes "s")) ∷ []);
  report = shows
      (to_both (replies 8 words.Sync (answers.Synced (look x 1 (counts 0 0)) 0)
      ∷ replies 9 words.Stop (answers.Stopped 2) ∷ []) [])
      (row e a 0 (id a 0) (marks.Number 1) marks.None Open ∷ []) (proposed x ∷ empty e y ∷ []);
}

-- 6 append ok 1 x!0@0
-- 7 scan ok 1 nodes 1 x?1 x?1/1
-- + a.0 STAMP TEXT
abbrev pub scans_one : ℕ → List ℕ → Case
scans_one stamp text = case (append 6 ∷ scan 7 ∷ [])
    (stood_at 6 1 0 0
    ∷ scanned 7 1 (raise x (Look 1) ∷ []) (look x 1 (counts 1 0) ∷ []) 1 (shown stamp text ∷ []) ∷ []) one_node

-- + a.0 1 t
abbrev pub a_scan_of_another_text : Case
a_scan_of_another_text = scans_one 1 (codes "t")

-- + a.0 2 s
abbrev pub a_scan_under_another_stamp : Case
a_scan_under_another_stamp = scans_one 2 (codes "s")

-- 6 scan ok 0 nodes 0 x!0 x?1/0
-- column e x
-- 0 a trim 0
-- = clock 0 line - queue - cut 0 base 0
abbrev pub a_trim_told_as_a_raise : Case
a_trim_told_as_a_raise = case (scan 6 ∷ [])
    (scanned 6 0 (raise x (Event 0) ∷ []) (look x 1 (counts 0 0) ∷ []) 0 [] ∷ []) (trimmed (trim ∷ []))

-- 6 trim ok !0 base 0
-- 7 scan ok 0 nodes 0 x?0 x?1/0
-- column e x
-- 0 a trim 0
-- = clock 0 line - queue - cut 0 base 0
abbrev pub a_raise_behind_what_was_seen : Case
a_raise_behind_what_was_seen = case (asks 6 a (whats.Trim x) ∷ scan 7 ∷ [])
    (trimmed_at 6 0 ∷ scanned 7 0 (raise x (Look 0) ∷ []) (look x 1 (counts 0 0) ∷ []) 0 [] ∷ [])
    (trimmed (trim ∷ []))

-- 8 append ok 1 y!0@0
-- 9 pull ok 0 give !0 carry ?1
-- 10 scan ok 1 nodes 1 x!0 y?1 x?1/0,0 y?1/1,0
-- + b.0 1 t
-- column e x
-- 0 a raise 1
-- = clock 1 line - queue - cut 0,0 base 0,0
-- column e y
-- 0 b single b.0 floor 0 wants 0,0 stamp 1
-- = clock 1 line b.0:1 queue - cut 1,0 base 0,0
abbrev pub a_raise_that_was_seen : Case
a_raise_that_was_seen = record {
  script = script 2 2 (e ∷ e ∷ []) [] (asks 8 b (whats.Append on_y (codes "t")) ∷ asks 9 a (whats.Pull w x)
      ∷ asks 10 a (whats.Scan on_both) ∷ []);
  report = shows (to_both (pulled 9 0 0 (Look 1)
      ∷ scanned 10 1 (raise x (Event 0) ∷ raise y (Look 1) ∷ []) (look x 1 (counts 0 0) ∷ look y 1 (counts 1 0) ∷ []) 1
      (record (shown 1 (codes "t")) { head = record { key = key 1 (id b 0); needs = counts 0 0 } } ∷ []) ∷ [])
      (replies 8 words.Append (answers.Stood 1 None (point y 0 0 ∷ [])) ∷ []))
      [] (raised x ∷ one_of b y ∷ gives_nothing ∷ empty w y ∷ []);
}

-- 8 append ok 1 row 0 x!0@0 y!0@0
-- 9 append ok 2 y!2@1
-- 10 scan ok 2 nodes 2 x!1 y?3 x?3/1 y?3/2
-- + a.0 1 s
-- + b.0 2 t
-- row e a.0 a.0 x=1 y=1 final 1
-- column e x
-- 0 a propose a.0 floor 0 wants 0 stamp 1
-- 1 a raise 2
-- 2 b settle a.0 final 1
-- = clock 2 line a.0:1 queue - cut 1 base 0
-- column e y
-- 0 a propose a.0 floor 0 wants 0 stamp 1
-- 1 a settle a.0 final 1
-- 2 b single b.0 floor 0 wants 0 stamp 2
-- = clock 2 line a.0:1,b.0:2 queue - cut 2 base 0
abbrev pub a_raise_before_its_clients_node_is_settled : Case
a_raise_before_its_clients_node_is_settled = record {
  script = together (asks 8 a (whats.Append on_both (codes "s")) ∷ asks 9 b (whats.Append on_y (codes "t"))
      ∷ asks 10 a (whats.Scan on_both) ∷ []);
  report = shows (to_both (stood
      ∷ scanned 10 2 (raise x (Event 1) ∷ raise y (Look 3) ∷ []) (look x 3 (counts 1 0) ∷ look y 3 (counts 2 0) ∷ []) 2
      (shown 1 (codes "s")
      ∷ record (shown 2 (codes "t")) { head = record { key = key 2 (id b 0); needs = counts 0 0 } } ∷ []) ∷ [])
      (replies 9 words.Append (answers.Stood 2 None (point y 2 1 ∷ [])) ∷ []))
      (row e a 0 (id a 0) (marks.Number 1) (marks.Number 1) (Final 1) ∷ [])
      (column e x (proposes a (id a 0) 0 1 ∷ by a (made.Raise 2) 0 ∷ settles b (id a 0) 1 ∷ []) 2 (key 1 (id a 0) ∷ []) []
      (counts 1 0) (counts 0 0)
      ∷ column e y (proposes a (id a 0) 0 1 ∷ settles a (id a 0) 1 ∷ enters b (id b 0) 0 2 ∷ []) 2
      (key 1 (id a 0) ∷ key 2 (id b 0) ∷ []) [] (counts 2 0) (counts 0 0) ∷ []);
}

-- 8 append nomemory
-- 9 scan ok 1 nodes 0 x?2 x?2/0
-- 10 append ok 2 x!2@0
-- row e b.0 b.0 x=1 y=memory gone memory
-- column e x
-- 0 b propose b.0 floor 0 wants 0 stamp 1
-- 1 b settle b.0 gone memory
-- 2 a single a.0 floor 0 wants 0 stamp 2
-- = clock 2 line a.0:2 queue - cut 1 base 0
abbrev pub a_read_that_leaves_the_floor : Case
a_read_that_leaves_the_floor = record {
  script = together (asks 8 b (whats.Append on_both (codes "t")) ∷ scan 9 ∷ append 10 ∷ []);
  report = shows (to_both (scanned 9 1 (raise x (Look 2) ∷ []) (look x 2 (counts 0 0) ∷ []) 0 []
      ∷ stood_at 10 2 2 0 ∷ []) (replies 8 words.Append answers.NoMemory ∷ []))
      (row e b 0 (id b 0) (marks.Number 1) (marks.Fenced Memory) (Gone Memory) ∷ [])
      (column e x (proposes b (id b 0) 0 1 ∷ by b (made.Settle (id b 0) (Gone Memory)) 0 ∷ enters a (id a 0) 0 2 ∷ []) 2
      (key 2 (id a 0) ∷ []) [] (counts 1 0) (counts 0 0) ∷ empty e y ∷ []);
}

-- b appends to a colour, plays its node and trims it, by three lines from this one on
abbrev pub b_trims : ℕ → ℕ → Colours → List Command
b_trims line colour on =
    asks line b (whats.Append on (codes "t")) ∷ asks (line + 1) b (whats.Sync colour) ∷ asks (line + 2) b (whats.Trim colour)
    ∷ []

-- and the answers, where the node has this number among those of b, and this stamp
abbrev pub b_trimmed : ℕ → ℕ → ℕ → ℕ → List ReplyLine
b_trimmed line colour count stamp =
    replies line words.Append (answers.Stood stamp None (point colour 0 0 ∷ []))
    ∷ record (replies (line + 1) words.Sync (answers.Synced (look colour 1 (counts 1 0)) 1)) {
      nodes =
          shown_of_b count stamp ∷ [];
    } ∷ replies (line + 2) words.Trim (answers.Based (Event 1) (counts 1 0)) ∷ []

-- 0 b single b.0 floor 0 wants 0 stamp 1
-- 1 b trim 1
-- 2 a single a.0 floor FLOOR wants 0 stamp 2
-- = clock 2 line b.0:1,a.0:2 queue - cut 2 base 1
abbrev pub a_behind_the_trim : ℕ → ColumnReport
a_behind_the_trim floor =
    column e x (enters b (id b 0) 0 1 ∷ trims b (counts 1 0) ∷ enters a (id a 0) floor 2 ∷ []) 2
    (key 1 (id b 0) ∷ key 2 (id a 0) ∷ []) [] (counts 2 0) (counts 1 0)

-- 8 append ok 1 x!0@0
-- 9 sync ok x?1/1 plays 1
-- + b.0 1 t
-- 10 trim ok !1 base 1
-- 11 append ok 2 y!0@0
-- 12 sync ok y?1/1 plays 1
-- + b.1 2 t
-- 13 trim ok !1 base 1
-- 14 append ok 2 x!2@1
-- 15 scan trimmed y 1
-- column e x
-- 0 b single b.0 floor 0 wants 0 stamp 1
-- 1 b trim 1
-- 2 a single a.0 floor 0 wants 0 stamp 2
-- = clock 2 line b.0:1,a.0:2 queue - cut 2 base 1
-- column e y
-- 0 b single b.1 floor 1 wants 0 stamp 2
-- 1 b trim 1
-- = clock 2 line b.1:2 queue - cut 1 base 1
abbrev pub a_refused_read_that_tells_a_later_colour : Case
a_refused_read_that_tells_a_later_colour = record {
  script = together (b_trims 8 x on_x ++ b_trims 11 y on_y ++ append 14 ∷ asks 15 a (whats.Scan on_both) ∷ []);
  report = shows (to_both (stood_at 14 2 2 1 ∷ replies 15 words.Scan (answers.Trimmed y (counts 1 0)) ∷ [])
      (b_trimmed 8 x 0 1 ++ b_trimmed 11 y 1 2)) []
      (a_behind_the_trim 0
      ∷ column e y (enters b (id b 1) 1 2 ∷ trims b (counts 1 0) ∷ []) 2 (key 2 (id b 1) ∷ []) [] (counts 1 0) (counts 1 0)
      ∷ []);
}

-- 8 append ok 1 x!0@0
-- 9 sync ok x?1/1 plays 1
-- + b.0 1 t
-- 10 trim ok !1 base 1
-- 11 scan trimmed x 1
-- 12 append ok 2 x!2@1
-- column e x
-- 0 b single b.0 floor 0 wants 0 stamp 1
-- 1 b trim 1
-- 2 a single a.0 floor 1 wants 0 stamp 2
-- = clock 2 line b.0:1,a.0:2 queue - cut 2 base 1
abbrev pub a_refused_read_that_raises_the_floor : Case
a_refused_read_that_raises_the_floor = record {
  script = script 1 1 (e ∷ e ∷ []) [] (b_trims 8 x on_x ++ scan 11 ∷ append 12 ∷ []);
  report = shows (to_both (replies 11 words.Scan (answers.Trimmed x (counts 1 0)) ∷ stood_at 12 2 2 1 ∷ [])
      (b_trimmed 8 x 0 1)) [] (a_behind_the_trim 1 ∷ []);
}

-- PULLS AND TRIMS
-- 6 trim ok ?1 base 0
-- column e x
-- 0 a trim 0
-- = clock 0 line - queue - cut 0 base 0
abbrev pub a_trim_told_as_a_look : Case
a_trim_told_as_a_look = case (asks 6 a (whats.Trim x) ∷ [])
    (replies 6 words.Trim (answers.Based (Look 1) (counts 0 0)) ∷ []) (trimmed (trim ∷ []))

-- 6 sync ok !0 base 0
-- column e x
-- 0 a trim 0
-- = clock 0 line - queue - cut 0 base 0
abbrev pub a_sync_answered_as_a_trim : Case
a_sync_answered_as_a_trim = case (asks 6 a (whats.Sync x) ∷ [])
    (replies 6 words.Sync (answers.Based (Event 0) (counts 0 0)) ∷ []) (trimmed (trim ∷ []))

-- b of the region w pulls of e
abbrev pub b_pulls : ReplyLine → Entry → Case
b_pulls reply entry = record {
  script = apart (asks 8 b (whats.Pull e x) ∷ []);
  report = shows (to_both [] (reply ∷ [])) [] (record (empty e x) { journal = entry ∷ [] } ∷ empty w x ∷ []);
}

-- 8 pull ok 0 give ?1 carry ?0
-- column e x
-- 0 b give w 0
-- = clock 0 line - queue - cut 0,0 base 0,0
abbrev pub a_give_told_as_a_look : Case
a_give_told_as_a_look = b_pulls (replies 8 words.Pull (answers.Pulled 0 (Look 1) (Look 0))) (given_from 0)

-- 8 pull ok 0 give !0 carry ?0
-- column e x
-- 0 b trim 0,0
-- = clock 0 line - queue - cut 0,0 base 0,0
abbrev pub a_trim_told_as_a_give : Case
a_trim_told_as_a_give = b_pulls (pulled 8 0 0 (Look 0)) (by b (made.Trim (counts 0 0)) 0)

-- 8 pull ok 0 give !0 carry ?1
abbrev pub a_carry_beyond_the_events : Case
a_carry_beyond_the_events = b_pulls (pulled 8 0 0 (Look 1)) (given_from 0)

-- 8 trim ok !0 base 0,0
-- 9 pull ok 0 give !0 carry ?0
-- column e x
-- 0 b give w 0
-- = clock 0 line - queue - cut 0,0 base 0,0
-- column w x
-- 0 b trim 0,0
-- = clock 0 line - queue - cut 0,0 base 0,0
abbrev pub a_pull_behind_what_was_seen : Case
a_pull_behind_what_was_seen = record {
  script = apart (asks 8 b (whats.Trim x) ∷ asks 9 b (whats.Pull e x) ∷ []);
  report = shows (to_both [] (trimmed_at 8 0 ∷ pulled 9 0 0 (Look 0) ∷ [])) []
      (record (empty e x) { journal = given_from 0 ∷ [] }
      ∷ record (empty w x) { journal = by b (made.Trim (counts 0 0)) 0 ∷ [] } ∷ []);
}

-- 8 append ok 1 x!0@0
-- 9 sync ok x?1/1,0 plays 1
-- + a.0 1 s
-- 10 pull ok 1 give !1 carry !0
-- column e x
-- 0 a single a.0 floor 0 wants 0,0 stamp 1
-- 1 b give w 1
-- = clock 1 line a.0:1 queue - cut 1,0 base 0,0
-- column w x
-- 0 b carry e 0 a.0:1/0,0
-- = clock 0 line - queue - cut 1,0 base 0,0
abbrev pub a_carry_that_was_seen : Case
a_carry_that_was_seen = record {
  script = apart (append 8 ∷ asks 9 b (whats.Sync x) ∷ asks 10 b (whats.Pull e x) ∷ []);
  report = shows (to_both (stood_at 8 1 0 0 ∷ []) (record one_play { line = 9 } ∷ pulled 10 1 1 (Event 0) ∷ [])) []
      (record one_node { journal = enters a (id a 0) 0 1 ∷ given_from 1 ∷ [] }
      ∷ record (empty w x) { journal = carried_one ∷ []; cut = counts 1 0 } ∷ []);
}

-- OBJECTS on x, where there is a colour y too
abbrev pub beside_y : Kind → What → Word → Answer → ColumnReport → Case
beside_y kind what word answer column = record {
  script = script 1 2 (e ∷ e ∷ []) (record { name = codes "o"; kind = kind } ∷ []) (asks 9 a what ∷ []);
  report = shows (to_both (replies 9 word answer ∷ []) []) [] (column ∷ empty e y ∷ []);
}

-- map o e x
-- 9 a get o k
-- 9 get ok - y?0/0
abbrev pub a_get_of_another_colour : Case
a_get_of_another_colour =
    beside_y map (whats.Get 0 (codes "k")) words.Get (answers.Got None (look y 0 (counts 0 0))) (empty e x)

-- causal o x
-- 9 a get o k
-- 9 get ok y?0/0
abbrev pub a_causal_get_of_another_colour : Case
a_causal_get_of_another_colour =
    beside_y (kinds.Causal x) (whats.Get 0 (codes "k")) words.Get (answers.GotMany [] (look y 0 (counts 0 0)))
    (empty e x)

-- queue o e x
-- 9 a deq o
-- 9 deq ok - x!0@0 y?0/0
abbrev pub a_dequeue_of_another_colour : Case
a_dequeue_of_another_colour =
    beside_y queue (whats.Deq 0) words.Deq (answers.Took None (point x 0 0) (look y 0 (counts 0 0))) one_node

-- tx o e x
-- 7 a read o k
-- 8 a read o k
-- 9 a commit o k=v
-- 7 read ok 0 k=- x?0 x?0/0
-- 8 read nomemory
-- 9 commit unread 1 nomemory
-- column e x
-- 0 a single a.0 floor 0 wants 0 stamp 1
-- = clock 1 line a.0:1 queue - cut 1 base 0
abbrev pub a_refused_read_that_keeps_an_earlier_one : Case
a_refused_read_that_keeps_an_earlier_one =
    over tx (asks 7 a (whats.Read 0 (codes "k" ∷ [])) ∷ asks 8 a (whats.Read 0 (codes "k" ∷ []))
    ∷ asks 9 a (whats.Commit 0 one_pair) ∷ [])
    (read_at 7 ∷ replies 8 words.Read answers.NoMemory ∷ replies 9 words.Commit (answers.UnreadNoMemory 1) ∷ [])
    one_node

-- map o e x
-- 7 a append x p:k=v
-- 8 a get o k
-- 7 append ok 1 x!0@0
-- 8 get ok w x?1/1
-- column e x
-- 0 a single a.0 floor 0 wants 0 stamp 1
-- = clock 1 line a.0:1 queue - cut 1 base 0
abbrev pub a_value_of_another_text : Case
a_value_of_another_text =
    over map (asks 7 a (whats.Append on_x (codes "p:k=v")) ∷ asks 8 a (whats.Get 0 (codes "k")) ∷ [])
    (stood_at 7 1 0 0 ∷ replies 8 words.Get (answers.Got (Some (codes "w")) (look x 1 (counts 1 0))) ∷ []) one_node

-- causal o x
-- 7 a append x s
-- 8 a get o k
-- 7 append ok 1 x!0@0
-- 8 get ok v x?1/1
abbrev pub a_causal_value_of_another_text : Case
a_causal_value_of_another_text =
    over (kinds.Causal x) (append 7 ∷ asks 8 a (whats.Get 0 (codes "k")) ∷ [])
    (stood_at 7 1 0 0 ∷ replies 8 words.Get (answers.GotMany (codes "v" ∷ []) (look x 1 (counts 1 0))) ∷ []) one_node
