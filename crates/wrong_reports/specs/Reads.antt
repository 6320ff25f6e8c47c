-- Reports of a scan that is wrong.
use Rattle.std.specs.Prelude.{ℕ, List, [], ◌∷◌, codes, false}
use Rattle.log_node.specs.declared.node.At.{At}
use Rattle.log_node.specs.declared.node.At.TheVariants.{Event, Look}
use Rattle.log_node.specs.Seen.{PlacedNode}
use Rattle.log_node.specs.declared.marks.Mark.TheVariants as marks
use Rattle.log_node.specs.declared.marks.Outcome.TheVariants.{Open, Final}
use Rattle.col_core.specs.declared.Event.TheVariants.{Raise}
use Rattle.script_text.specs.declared.commands.What.TheVariants.{Append, Stop, Sync, Scan, Trim}
use Rattle.script_text.specs.declared.commands.Word.TheVariants as words
use Rattle.script_text.specs.declared.script.Command.{Command}
use Rattle.report_text.specs.declared.report.Answer.TheVariants as answers
use Rattle.report_text.specs.declared.report.RaisePiece.{RaisePiece}
use Rattle.report_text.specs.declared.report.SyncPiece.{SyncPiece}
use Rattle.report_text.specs.declared.report.ReplyLine.{ReplyLine}
use Rattle.report_text.specs.declared.report.ColumnReport.{ColumnReport}
use Rattle.wrong_reports.specs.Cases.{Case, a, b, e, x, y, id, key, counts, on_x, on_both, together, asks, replies}
use Rattle.wrong_reports.specs.Cases.{script, to_both, look, column, empty, by, proposes, trims, shows}
use Rattle.wrong_reports.specs.Naming.{case, append, stood_at, one_node, trimmed, trimmed_at}
use Rattle.wrong_reports.specs.Shown.{shown, two_entries, two_plays}
use Rattle.wrong_reports.specs.Rows.{row, stood, complete}

-- a raise as it is shown
abbrev pub raise : ℕ → At → RaisePiece
raise colour at = record { colour = colour; at = at }

-- the reply to a scan in this line, with this stamp, raises, syncs and nodes
abbrev pub scanned : ℕ → ℕ → List RaisePiece → List SyncPiece → ℕ → List PlacedNode → ReplyLine
scanned line stamp raises syncs count nodes =
    record { line = line; word = words.Scan; answer = answers.Scanned stamp count raises syncs; nodes = nodes }

-- a scan of x by the client a
abbrev pub scan : ℕ → Command
scan line = asks line a (Scan on_x)

-- 6 scan ok 0 nodes 1 x?0 x?0/0
abbrev pub a_scan_of_more_nodes : Case
a_scan_of_more_nodes =
    case (scan 6 ∷ []) (scanned 6 0 (raise x (Look 0) ∷ []) (look x 0 (counts 0 0) ∷ []) 1 [] ∷ []) (empty e x)

-- 6 scan ok 0 nodes 0 x?0/0
abbrev pub a_scan_without_a_raise : Case
a_scan_without_a_raise = case (scan 6 ∷ []) (scanned 6 0 [] (look x 0 (counts 0 0) ∷ []) 0 [] ∷ []) (empty e x)

-- 6 scan ok 0 nodes 0 x?0
abbrev pub a_scan_without_a_sync : Case
a_scan_without_a_sync = case (scan 6 ∷ []) (scanned 6 0 (raise x (Look 0) ∷ []) [] 0 [] ∷ []) (empty e x)

-- 6 scan ok 5 nodes 0 x!0 x?1/0
-- column e x
-- 0 a raise 5
-- = clock 5 line - queue - cut 0 base 0
abbrev pub a_read_stamp_of_nothing : Case
a_read_stamp_of_nothing =
    case (scan 6 ∷ []) (scanned 6 5 (raise x (Event 0) ∷ []) (look x 1 (counts 0 0) ∷ []) 0 [] ∷ [])
    (column e x (by a (Raise 5) 0 ∷ []) 5 [] [] (counts 0 0) (counts 0 0))

-- 6 append ok 1 x!0@0
-- 7 scan ok 0 nodes 0 x?1 x?1/1
abbrev pub a_read_below_the_floor : Case
a_read_below_the_floor = case (append 6 ∷ scan 7 ∷ [])
    (stood_at 6 1 0 0 ∷ scanned 7 0 (raise x (Look 1) ∷ []) (look x 1 (counts 1 0) ∷ []) 0 [] ∷ []) one_node

-- 6 append ok 1 x!0@0
-- 7 scan ok 1 nodes 0 x?1 x?1/1
abbrev pub a_scan_that_leaves_a_node_out : Case
a_scan_that_leaves_a_node_out = case (append 6 ∷ scan 7 ∷ [])
    (stood_at 6 1 0 0 ∷ scanned 7 1 (raise x (Look 1) ∷ []) (look x 1 (counts 1 0) ∷ []) 0 [] ∷ []) one_node

-- 8 append ok 1 x!0@0
-- 9 scan ok 1 nodes 1 x?1 y?0 x?1/1 y?0/0
-- + a.0 1 s
abbrev pub a_raise_that_does_not_reach : Case
a_raise_that_does_not_reach = record {
  script = together (asks 8 a (Append on_x (codes "s")) ∷ asks 9 a (Scan on_both) ∷ []);
  report = shows (to_both (stood_at 8 1 0 0
      ∷ scanned 9 1 (raise x (Look 1) ∷ raise y (Look 0) ∷ []) (look x 1 (counts 1 0) ∷ look y 0 (counts 0 0) ∷ []) 1
      (shown 1 (codes "s") ∷ []) ∷ []) [])
      [] (one_node ∷ empty e y ∷ []);
}

-- 8 append ok 1 row 0 x!0@0 y!0@0
-- 9 scan ok 1 nodes 1 x?1 x?2/1
-- + a.0 1 s
abbrev pub a_raise_before_its_clients_nodes : Case
a_raise_before_its_clients_nodes = record {
  script = together (asks 8 a (Append on_both (codes "s")) ∷ asks 9 a (Scan on_x) ∷ []);
  report = shows (to_both (stood
      ∷ scanned 9 1 (raise x (Look 1) ∷ []) (look x 2 (counts 1 0) ∷ []) 1 (shown 1 (codes "s") ∷ []) ∷ []) [])
      (row e a 0 (id a 0) (marks.Number 1) (marks.Number 1) (Final 1) ∷ []) (complete x ∷ complete y ∷ []);
}

-- a column in which a node of b is open
abbrev pub opened : ColumnReport
opened = column e x (proposes b (id b 0) 0 1 ∷ []) 1 [] (record { key = key 1 (id b 0); settled = false }
    ∷ []) (counts 0 0) (counts 0 0)

-- b stopped after its proposal in x
abbrev pub over_an_open_entry : List Command → List ReplyLine → Case
over_an_open_entry commands lines = record {
  script = together (asks 8 b (Stop 2 on_both (codes "s")) ∷ commands);
  report = shows (to_both lines (replies 8 words.Stop (answers.Stopped 2) ∷ []))
      (row e b 0 (id b 0) (marks.Number 1) marks.None Open ∷ [])
      (opened ∷ empty e y ∷ []);
}

-- 9 scan ok 1 nodes 0 x?1 x?1/0
-- column e x
-- 0 b propose b.0 floor 0 wants 0 stamp 1
-- = clock 1 line - queue b.0:1? cut 0 base 0
abbrev pub a_read_over_an_open_entry : Case
a_read_over_an_open_entry = over_an_open_entry (scan 9 ∷ [])
    (scanned 9 1 (raise x (Look 1) ∷ []) (look x 1 (counts 0 0) ∷ []) 0 [] ∷ [])

-- 9 sync ok x?1/0 plays 0
-- 10 scan ok 0 nodes 0 x?1 x?1/0
abbrev pub a_read_below_a_clock_that_was_seen : Case
a_read_below_a_clock_that_was_seen = over_an_open_entry (asks 9 a (Sync x) ∷ scan 10 ∷ [])
    (replies 9 words.Sync (answers.Synced (look x 1 (counts 0 0)) 0)
    ∷ scanned 10 0 (raise x (Look 1) ∷ []) (look x 1 (counts 0 0) ∷ []) 0 [] ∷ [])

-- 8 append ok 1 x!0@0
-- 9 scan ok 1 nodes 1 x?1 y!0 x?1/1 y?1/0
-- + a.0 1 s
-- column e y
-- 0 a raise 1
-- = clock 0 line - queue - cut 0 base 0
abbrev pub a_raise_that_leaves_the_clock : Case
a_raise_that_leaves_the_clock = record {
  script = together (asks 8 a (Append on_x (codes "s")) ∷ asks 9 a (Scan on_both) ∷ []);
  report = shows (to_both (stood_at 8 1 0 0
      ∷ scanned 9 1 (raise x (Look 1) ∷ raise y (Event 0) ∷ []) (look x 1 (counts 1 0) ∷ look y 1 (counts 0 0) ∷ []) 1
      (shown 1 (codes "s") ∷ []) ∷ []) [])
      [] (one_node ∷ column e y (by a (Raise 1) 0 ∷ []) 0 [] [] (counts 0 0) (counts 0 0) ∷ []);
}

-- 6 scan nomemory
-- column e x
-- 0 a raise 5
-- = clock 5 line - queue - cut 0 base 0
abbrev pub a_hidden_raise_to_nothing : Case
a_hidden_raise_to_nothing = case (scan 6 ∷ []) (replies 6 words.Scan answers.NoMemory ∷ [])
    (column e x (by a (Raise 5) 0 ∷ []) 5 [] [] (counts 0 0) (counts 0 0))

-- 6 scan nomemory
-- 7 trim ok !0 base 0
-- column e x
-- 0 a trim 1
-- = clock 0 line - queue - cut 0 base 0
abbrev pub a_hidden_look_at_nothing : Case
a_hidden_look_at_nothing = case (scan 6 ∷ asks 7 a (Trim x) ∷ [])
    (replies 6 words.Scan answers.NoMemory ∷ trimmed_at 7 0 ∷ []) (trimmed (trims a (counts 1 0) ∷ []))

-- 6 append ok 1 x!0@0
-- 7 append ok 2 x!1@1
-- 8 scan ok 2 nodes 2 x?2 x?2/2
-- + a.1 2 s
-- + a.0 1 s
abbrev pub a_scan_in_another_order : Case
a_scan_in_another_order = case (append 6 ∷ append 7 ∷ scan 8 ∷ [])
    (stood_at 6 1 0 0 ∷ stood_at 7 2 1 1
    ∷ scanned 8 2 (raise x (Look 2) ∷ []) (look x 2 (counts 2 0) ∷ []) 2 two_plays.nodes ∷ [])
    (column e x two_entries 2 (key 1 (id a 0) ∷ key 2 (id a 1) ∷ []) [] (counts 2 0) (counts 0 0))

-- 8 append ok 1 x!0@0
-- 9 scan ok 0 nodes 1 x?0 x?1/1
-- + a.0 1 s
abbrev pub a_scan_beyond_its_stamp : Case
a_scan_beyond_its_stamp = record {
  script = script 1 1 (e ∷ e ∷ []) [] (append 8 ∷ asks 9 b (Scan on_x) ∷ []);
  report = shows (to_both (stood_at 8 1 0 0 ∷ [])
      (scanned 9 0 (raise x (Look 0) ∷ []) (look x 1 (counts 1 0) ∷ []) 1 (shown 1 (codes "s") ∷ []) ∷ []))
      [] (one_node ∷ []);
}
