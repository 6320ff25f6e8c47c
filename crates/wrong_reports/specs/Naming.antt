-- Reports whose replies name other events or nodes than they may.
use Rattle.std.specs.Prelude.{ℕ, List, [], ◌∷◌, codes, None}
use Rattle.log_node.specs.declared.node.At.TheVariants.{Event}
use Rattle.col_core.specs.declared.Event.TheVariants.{Raise}
use Rattle.script_text.specs.declared.commands.What.TheVariants.{Append, Sync, Trim}
use Rattle.script_text.specs.declared.commands.Word.TheVariants as words
use Rattle.script_text.specs.declared.script.Command.{Command}
use Rattle.report_text.specs.declared.report.Answer.TheVariants as answers
use Rattle.report_text.specs.declared.report.ReplyLine.{ReplyLine}
use Rattle.report_text.specs.declared.report.ColumnReport.{ColumnReport}
use Rattle.col_core.specs.declared.Entry.{Entry}
use Rattle.wrong_reports.specs.Cases.{Case, a, e, x, id, key, counts, on_x, alone, asks, replies, to_a, look, column}
use Rattle.wrong_reports.specs.Cases.{by, empty, enters, trims, point, shows}

-- 0 a trim 0
abbrev pub trim : Entry
trim = trims a (counts 0 0)

-- so many trims, of nothing
abbrev pub trimmed : List Entry → ColumnReport
trimmed journal = column e x journal 0 [] [] (counts 0 0) (counts 0 0)

-- a trim at a place
abbrev pub trimmed_at : ℕ → ℕ → ReplyLine
trimmed_at line place = replies line words.Trim (answers.Based (Event place) (counts 0 0))

-- a sync that saw so many events and plays nothing
abbrev pub synced_at : ℕ → ℕ → ReplyLine
synced_at line events = replies line words.Sync (answers.Synced (look x events (counts 0 0)) 0)

-- the client a alone, with its commands, its replies and one column
abbrev pub case : List Command → List ReplyLine → ColumnReport → Case
case commands lines column = record { script = alone commands; report = shows (to_a lines) [] (column ∷ []) }

-- 6 sync ok x?0/0 plays 0
-- column e x
-- 0 a trim 0
-- = clock 0 line - queue - cut 0 base 0
abbrev pub an_own_event_that_no_reply_names : Case
an_own_event_that_no_reply_names = case (asks 6 a (Sync x) ∷ []) (synced_at 6 0 ∷ []) (trimmed (trim ∷ []))

-- 6 trim ok !0 base 0
-- 7 trim ok !0 base 0
-- column e x
-- 0 a trim 0
-- = clock 0 line - queue - cut 0 base 0
abbrev pub an_event_named_twice : Case
an_event_named_twice =
    case (asks 6 a (Trim x) ∷ asks 7 a (Trim x) ∷ []) (trimmed_at 6 0 ∷ trimmed_at 7 0 ∷ []) (trimmed (trim ∷ []))

-- 6 trim ok !1 base 0
-- 7 trim ok !0 base 0
-- column e x
-- 0 a trim 0
-- 1 a trim 0
-- = clock 0 line - queue - cut 0 base 0
abbrev pub events_named_out_of_order : Case
events_named_out_of_order =
    case (asks 6 a (Trim x) ∷ asks 7 a (Trim x) ∷ []) (trimmed_at 6 1 ∷ trimmed_at 7 0 ∷ []) (trimmed (trim
    ∷ trim ∷ []))

-- 6 sync ok x?1/0 plays 0
-- 7 trim ok !0 base 0
-- column e x
-- 0 a trim 0
-- = clock 0 line - queue - cut 0 base 0
abbrev pub an_event_seen_before_it_is_made : Case
an_event_seen_before_it_is_made =
    case (asks 6 a (Sync x) ∷ asks 7 a (Trim x) ∷ []) (synced_at 6 1 ∷ trimmed_at 7 0 ∷ []) (trimmed (trim ∷ []))

-- 6 trim ok !0 base 0
-- 7 sync ok x?0/0 plays 0
-- column e x
-- 0 a trim 0
-- = clock 0 line - queue - cut 0 base 0
abbrev pub a_look_behind_what_was_seen : Case
a_look_behind_what_was_seen =
    case (asks 6 a (Trim x) ∷ asks 7 a (Sync x) ∷ []) (trimmed_at 6 0 ∷ synced_at 7 0 ∷ []) (trimmed (trim ∷ []))

-- 6 trim ok !0 base 0
-- column e x
-- = clock 0 line - queue - cut 0 base 0
abbrev pub an_event_that_is_not_there : Case
an_event_that_is_not_there = case (asks 6 a (Trim x) ∷ []) (trimmed_at 6 0 ∷ []) (empty e x)

-- AN APPEND
abbrev pub append : ℕ → Command
append line = asks line a (Append on_x (codes "s"))

-- an append to x that stands
abbrev pub stood_at : ℕ → ℕ → ℕ → ℕ → ReplyLine
stood_at line stamp place position =
    replies line words.Append (answers.Stood stamp None (point x place position ∷ []))

-- 0 a single a.0 floor 0 wants 0 stamp 1
-- = clock 1 line a.0:1 queue - cut 1 base 0
abbrev pub one_node : ColumnReport
one_node = column e x (enters a (id a 0) 0 1 ∷ []) 1 (key 1 (id a 0) ∷ []) [] (counts 1 0) (counts 0 0)

-- 6 append ok 1 x!0@1
-- column e x
-- 0 a single a.0 floor 0 wants 0 stamp 1
-- = clock 1 line a.0:1 queue - cut 1 base 0
abbrev pub an_append_at_another_position : Case
an_append_at_another_position = case (append 6 ∷ []) (stood_at 6 1 0 1 ∷ []) one_node

-- 6 append ok 2 x!0@0
-- column e x
-- 0 a single a.0 floor 0 wants 0 stamp 1
-- = clock 1 line a.0:1 queue - cut 1 base 0
abbrev pub an_append_under_another_stamp : Case
an_append_under_another_stamp = case (append 6 ∷ []) (stood_at 6 2 0 0 ∷ []) one_node

-- 6 append ok 0 x!0@0
-- column e x
-- 0 a single a.0 floor 0 wants 0 stamp 0
-- = clock 0 line a.0:0 queue - cut 1 base 0
abbrev pub an_append_not_above_the_floor : Case
an_append_not_above_the_floor = case (append 6 ∷ []) (stood_at 6 0 0 0 ∷ [])
    (column e x (enters a (id a 0) 0 0 ∷ []) 0 (key 0 (id a 0) ∷ []) [] (counts 1 0) (counts 0 0))

-- 6 append ok 1 x!0@0
-- column e x
-- 0 a single a.1 floor 0 wants 0 stamp 1
-- = clock 1 line a.1:1 queue - cut 1 base 0
abbrev pub a_single_of_nobody : Case
a_single_of_nobody = case (append 6 ∷ []) (stood_at 6 1 0 0 ∷ [])
    (column e x (enters a (id a 1) 0 1 ∷ []) 1 (key 1 (id a 1) ∷ []) [] (counts 1 0) (counts 0 0))

-- 6 append stampend x
-- column e x
-- = clock 0 line - queue - cut 0 base 0
abbrev pub no_stamp_with_stamps_left : Case
no_stamp_with_stamps_left = case (append 6 ∷ []) (replies 6 words.Append (answers.StampEnd x) ∷ []) (empty e x)

-- 6 append full 1
-- column e x
-- = clock 0 line - queue - cut 0 base 0
abbrev pub a_full_that_needs_no_row : Case
a_full_that_needs_no_row = case (append 6 ∷ []) (replies 6 words.Append (answers.Full 1) ∷ []) (empty e x)

-- 6 append ok 1 x!0@0
-- 7 append ok 2 x!1@1
-- column e x
-- 0 a single a.0 floor 0 wants 0 stamp 1
-- 1 a single a.1 floor 0 wants 0 stamp 2
-- = clock 2 line a.0:1,a.1:2 queue - cut 2 base 0
abbrev pub a_floor_that_is_forgotten : Case
a_floor_that_is_forgotten = case (append 6 ∷ append 7 ∷ []) (stood_at 6 1 0 0 ∷ stood_at 7 2 1 1 ∷ [])
    (column e x (enters a (id a 0) 0 1 ∷ enters a (id a 1) 0 2 ∷ []) 2 (key 1 (id a 0) ∷ key 2 (id a 1)
    ∷ []) [] (counts 2 0) (counts 0 0))

-- EVENTS THAT NO REPLY NAMES
-- 6 sync ok x?0/0 plays 0
-- column e x
-- 0 a raise 1
-- = clock 1 line - queue - cut 0 base 0
abbrev pub a_raise_that_no_reply_names : Case
a_raise_that_no_reply_names = case (asks 6 a (Sync x) ∷ []) (synced_at 6 0 ∷ [])
    (column e x (by a (Raise 1) 0 ∷ []) 1 [] [] (counts 0 0) (counts 0 0))

-- 6 sync ok x?0/0 plays 0
-- column e x
-- 0 a single a.0 floor 0 wants 0 stamp 1
-- = clock 1 line a.0:1 queue - cut 1 base 0
abbrev pub a_single_that_no_reply_names : Case
a_single_that_no_reply_names = case (asks 6 a (Sync x) ∷ []) (synced_at 6 0 ∷ []) one_node

-- 6 append unread 1 nomemory
-- column e x
-- 0 a single a.0 floor 0 wants 0 stamp 1
-- = clock 1 line a.0:1 queue - cut 1 base 0
abbrev pub an_append_that_reads : Case
an_append_that_reads = case (append 6 ∷ []) (replies 6 words.Append (answers.UnreadNoMemory 1) ∷ []) one_node

-- 6 append trimmed x 0
-- column e x
-- = clock 0 line - queue - cut 0 base 0
abbrev pub an_append_refused_for_a_trim : Case
an_append_refused_for_a_trim =
    case (append 6 ∷ []) (replies 6 words.Append (answers.Trimmed x (counts 0 0)) ∷ []) (empty e x)
