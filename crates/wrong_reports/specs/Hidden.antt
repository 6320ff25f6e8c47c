-- Reports of what a refused command did that it may not have done, and of refusals that do not come so.
use Rattle.std.specs.Prelude.{ℕ, List, [], ◌∷◌, codes, Some, None}
use Rattle.log_node.specs.declared.ids.Colours.{Colours}
use Rattle.log_node.specs.declared.node.At.TheVariants.{Event}
use Rattle.log_node.specs.Seen.{PlacedNode}
use Rattle.log_node.specs.declared.marks.Mark.TheVariants as marks
use Rattle.log_node.specs.declared.marks.Why.TheVariants.{StampEnd}
use Rattle.log_node.specs.declared.marks.Outcome.TheVariants.{Open, Gone}
use Rattle.col_core.specs.declared.Event.TheVariants.{Single, Raise}
use Rattle.script_text.specs.declared.commands.What.TheVariants as whats
use Rattle.script_text.specs.declared.commands.Word.{Word}
use Rattle.script_text.specs.declared.commands.Word.TheVariants as words
use Rattle.script_text.specs.declared.commands.What.{What}
use Rattle.script_text.specs.declared.script.Kind.{Kind}
use Rattle.report_text.specs.declared.report.Answer.TheVariants as answers
use Rattle.report_text.specs.declared.report.ColumnReport.{ColumnReport}
use Rattle.wrong_reports.specs.Cases.{Case, a, b, e, w, x, y, id, key, counts, on_x, on_y, on_both, together, apart, asks}
use Rattle.wrong_reports.specs.Cases.{replies, script, to_both, look, column, empty, by, enters, proposes, trims, point, shows}
use Rattle.wrong_reports.specs.Naming.{case, append, stood_at, one_node, trimmed, trimmed_at}
use Rattle.wrong_reports.specs.Shown.{shown, two_entries, one_play}
use Rattle.wrong_reports.specs.Rows.{row, stood, complete, proposed}
use Rattle.wrong_reports.specs.Moves.{pulls, pulled, given_from, carried_one}
use Rattle.wrong_reports.specs.Objects.{over, map, queue}
use Rattle.wrong_reports.specs.Proposals.{with_z, of_z, row_of_first}

-- READS THAT FOUND NO MEMORY
-- the node of a client in the column of a colour
abbrev pub one_of : ℕ → ℕ → ColumnReport
one_of client colour = column e colour (enters client (id client 0) 0 1 ∷ []) 1 (key 1 (id client 0)
    ∷ []) [] (counts 1 0) (counts 0 0)

-- 0 a raise 1
-- = clock 1 line - queue - cut 0 base 0
abbrev pub raised : ℕ → ColumnReport
raised colour = column e colour (by a (Raise 1) 0 ∷ []) 1 [] [] (counts 0 0) (counts 0 0)

-- the colours y and z
abbrev pub on_yz : Colours
on_yz = record { 0 = 6 }

-- 8 append ok 1 x!0@0
-- 9 append ok 2 x!1@1
-- 10 append ok 1 y!0@0
-- 11 scan nomemory
-- column e x
-- 0 a single a.0 floor 0 wants 0 stamp 1
-- 1 a single a.1 floor 1 wants 0 stamp 2
-- = clock 2 line a.0:1,a.1:2 queue - cut 2 base 0
-- column e y
-- 0 b single b.0 floor 0 wants 0 stamp 1
-- = clock 1 line b.0:1 queue - cut 1 base 0
-- column e z
-- 0 a raise 1
-- = clock 1 line - queue - cut 0 base 0
abbrev pub a_hidden_raise_below_the_floor : Case
a_hidden_raise_below_the_floor = record {
  script = with_z (append 8 ∷ append 9 ∷ asks 10 b (whats.Append on_y (codes "t")) ∷ asks 11 a (whats.Scan on_yz) ∷ []);
  report = shows (to_both (stood_at 8 1 0 0 ∷ stood_at 9 2 1 1 ∷ replies 11 words.Scan answers.NoMemory ∷ [])
      (replies 10 words.Append (answers.Stood 1 None (point y 0 0 ∷ [])) ∷ []))
      [] (column e x two_entries 2 (key 1 (id a 0) ∷ key 2 (id a 1) ∷ []) [] (counts 2 0) (counts 0 0)
      ∷ one_of b y ∷ of_z (raised x) ∷ []);
}

-- 8 append ok 1 x!0@0
-- 9 stop stopped 2
-- 10 sync ok x?2/1 plays 1
-- + a.0 1 s
-- 11 scan nomemory
-- row e b.0 b.0 x=2 y=- open
-- column e x
-- 0 a single a.0 floor 0 wants 0 stamp 1
-- 1 b propose b.0 floor 0 wants 0 stamp 2
-- = clock 2 line a.0:1 queue b.0:2? cut 1 base 0
-- column e y
-- 0 a raise 1
-- = clock 1 line - queue - cut 0 base 0
abbrev pub a_hidden_raise_below_a_clock : Case
a_hidden_raise_below_a_clock = record {
  script = together (append 8 ∷ asks 9 b (whats.Stop 2 on_both (codes "t")) ∷ asks 10 a (whats.Sync x)
      ∷ asks 11 a (whats.Scan on_both) ∷ []);
  report = shows (to_both (stood_at 8 1 0 0
      ∷ record one_play { line = 10; answer = answers.Synced (look x 2 (counts 1 0)) 1 }
      ∷ replies 11 words.Scan answers.NoMemory ∷ [])
      (replies 9 words.Stop (answers.Stopped 2) ∷ []))
      (row e b 0 (id b 0) (marks.Number 2) marks.None Open ∷ [])
      (column e x (enters a (id a 0) 0 1 ∷ proposes b (id b 0) 0 2 ∷ []) 2 (key 1 (id a 0) ∷ [])
      (record { key = key 2 (id b 0); settled = Rattle.std.specs.Prelude.false } ∷ []) (counts 1 0) (counts 0 0)
      ∷ raised y ∷ []);
}

-- 8 a append x s
-- 9 a scan x
-- 8 append ok 1 x!0@0
-- 9 scan nomemory
-- column e y
-- 0 a raise 1
-- = clock 1 line - queue - cut 0 base 0
abbrev pub a_hidden_raise_in_another_colour : Case
a_hidden_raise_in_another_colour = record {
  script = together (append 8 ∷ asks 9 a (whats.Scan on_x) ∷ []);
  report = shows (to_both (stood_at 8 1 0 0 ∷ replies 9 words.Scan answers.NoMemory ∷ []) []) []
      (one_node ∷ raised y ∷ []);
}

-- OBJECTS
-- an object's command finds no memory, and a trim is by a snapshot of a node that is not there
-- 7 .. nomemory
-- 8 trim ok !0 base 0
-- column e x
-- 0 a trim 1
-- = clock 0 line - queue - cut 0 base 0
abbrev pub looks_at_nothing : Kind → What → Word → Case
looks_at_nothing kind what word =
    over kind (asks 7 a what ∷ asks 8 a (whats.Trim x) ∷ []) (replies 7 word answers.NoMemory ∷ trimmed_at 8 0 ∷ [])
    (trimmed (trims a (counts 1 0) ∷ []))

-- map o e x
-- 7 a get o k
abbrev pub a_gets_hidden_look_at_nothing : Case
a_gets_hidden_look_at_nothing = looks_at_nothing map (whats.Get 0 (codes "k")) words.Get

-- queue o e x
-- 7 a deq o
abbrev pub a_dequeues_hidden_look_at_nothing : Case
a_dequeues_hidden_look_at_nothing = looks_at_nothing queue (whats.Deq 0) words.Deq

-- PULLS THAT FOUND NO MEMORY
-- 8 b pull e x
-- 8 pull nomemory
-- column e x
-- 0 b give w 0
-- 1 b give w 0
-- = clock 0 line - queue - cut 0,0 base 0,0
abbrev pub a_refused_pull_that_gives_twice : Case
a_refused_pull_that_gives_twice = record {
  script = apart (asks 8 b (whats.Pull e x) ∷ []);
  report = shows (to_both [] (replies 8 words.Pull answers.NoMemory ∷ [])) []
      (record (empty e x) { journal = given_from 0 ∷ given_from 0 ∷ [] } ∷ empty w x ∷ []);
}

-- 8 append ok 1 x!0@0
-- 9 pull nomemory
-- column e x
-- 0 a single a.0 floor 0 wants 0,0 stamp 1
-- 1 b give w 0
-- = clock 1 line a.0:1 queue - cut 1,0 base 0,0
-- column w x
-- 0 b carry e 0 a.0:1/0,0
-- = clock 0 line - queue - cut 1,0 base 0,0
abbrev pub a_refused_pull_that_carries : Case
a_refused_pull_that_carries = record {
  script = apart (append 8 ∷ asks 9 b (whats.Pull e x) ∷ []);
  report = shows (to_both (stood_at 8 1 0 0 ∷ []) (replies 9 words.Pull answers.NoMemory ∷ [])) []
      (record one_node { journal = enters a (id a 0) 0 1 ∷ given_from 0 ∷ [] }
      ∷ record (empty w x) { journal = carried_one ∷ []; cut = counts 1 0 } ∷ []);
}

-- 9 pull nomemory
-- 10 pull ok 1 give !2 carry !0
-- column e x
-- 0 a single a.0 floor 0 wants 0,0 stamp 1
-- 1 b give w 1
-- 2 b give w 0
-- column w x
-- 0 b carry e 0 a.0:1/0,0
abbrev pub a_refused_give_of_more_than_was_held : Case
a_refused_give_of_more_than_was_held =
    pulls (replies 9 words.Pull answers.NoMemory ∷ pulled 10 1 2 (Event 0) ∷ []) (asks 10 b (whats.Pull e x) ∷ [])
    (given_from 1 ∷ given_from 0 ∷ []) (carried_one ∷ []) (counts 1 0)

-- REFUSALS
-- 6 sync trimmed x 1
abbrev pub trimmed_by_nothing : Case
trimmed_by_nothing = case (asks 6 a (whats.Sync x) ∷ [])
    (replies 6 words.Sync (answers.Trimmed x (counts 1 0)) ∷ []) (empty e x)

-- 8 append ok 1 row 0 x!0@0 y!0@0
-- 9 stop full 1
abbrev pub a_stop_at_once_that_is_full : Case
a_stop_at_once_that_is_full = record {
  script = together (asks 8 a (whats.Append on_both (codes "s")) ∷ asks 9 a (whats.Stop 0 on_both (codes "t")) ∷ []);
  report = shows (to_both (stood ∷ replies 9 words.Stop (answers.Full 1) ∷ []) [])
      (row_of_first ∷ []) (complete x ∷ complete y ∷ []);
}

-- 8 append stampend y
-- 9 stop stopped 0
-- row e a.0 a.0 x=1 y=stampend gone stampend
-- column e x
-- 0 a propose a.0 floor 0 wants 0 stamp 1
-- = clock 1 line - queue a.0:1? cut 0 base 0
abbrev pub the_stamps_end_of_what_is_open : Case
the_stamps_end_of_what_is_open = record {
  script = together (asks 8 a (whats.Append on_both (codes "s")) ∷ asks 9 a (whats.Stop 0 on_both (codes "t")) ∷ []);
  report = shows (to_both (replies 8 words.Append (answers.StampEnd y)
      ∷ replies 9 words.Stop (answers.Stopped 0) ∷ []) [])
      (row e a 0 (id a 0) (marks.Number 1) (marks.Fenced StampEnd) (Gone StampEnd) ∷ [])
      (proposed x ∷ empty e y ∷ []);
}

-- the node of b with this id, under the stamp
abbrev pub shown_of_b : ℕ → ℕ → PlacedNode
shown_of_b count stamp = record (shown stamp (codes "t")) { head = record { key = key stamp (id b count); needs = counts 0 0 } }

-- 8 append ok 1 x!0@0
-- 9 sync ok x?1/1 plays 1
-- + b.0 1 t
-- 10 trim ok !1 base 1
-- 11 append ok 2 x!2@1
-- 12 sync ok x?3/2 plays 1
-- + b.1 2 t
-- 13 trim ok !3 base 2
-- 14 append ok 3 x!4@2
-- 15 sync trimmed x 1
-- column e x
-- 0 b single b.0 floor 0 wants 0 stamp 1
-- 1 b trim 1
-- 2 b single b.1 floor 1 wants 1 stamp 2
-- 3 b trim 2
-- 4 a single a.0 floor 0 wants 0 stamp 3
-- = clock 3 line b.0:1,b.1:2,a.0:3 queue - cut 3 base 2
abbrev pub a_base_behind_what_was_seen : Case
a_base_behind_what_was_seen = record {
  script = script 1 1 (e ∷ e ∷ []) [] (asks 8 b (whats.Append on_x (codes "t")) ∷ asks 9 b (whats.Sync x)
      ∷ asks 10 b (whats.Trim x) ∷ asks 11 b (whats.Append on_x (codes "t")) ∷ asks 12 b (whats.Sync x)
      ∷ asks 13 b (whats.Trim x) ∷ append 14 ∷ asks 15 a (whats.Sync x) ∷ []);
  report = shows (to_both
      (stood_at 14 3 4 2 ∷ replies 15 words.Sync (answers.Trimmed x (counts 1 0)) ∷ [])
      (stood_at 8 1 0 0
      ∷ record (replies 9 words.Sync (answers.Synced (look x 1 (counts 1 0)) 1)) { nodes = shown_of_b 0 1 ∷ [] }
      ∷ replies 10 words.Trim (answers.Based (Event 1) (counts 1 0))
      ∷ stood_at 11 2 2 1
      ∷ record (replies 12 words.Sync (answers.Synced (look x 3 (counts 2 0)) 1)) { nodes = shown_of_b 1 2 ∷ [] }
      ∷ replies 13 words.Trim (answers.Based (Event 3) (counts 2 0)) ∷ []))
      [] (column e x (enters b (id b 0) 0 1 ∷ trims b (counts 1 0) ∷ by b (Single (id b 1) 1 (counts 1 0)) 2
      ∷ trims b (counts 2 0) ∷ enters a (id a 0) 0 3 ∷ []) 3
      (key 1 (id b 0) ∷ key 2 (id b 1) ∷ key 3 (id a 0) ∷ []) [] (counts 3 0) (counts 2 0) ∷ []);
}
