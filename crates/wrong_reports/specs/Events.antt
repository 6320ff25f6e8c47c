-- Reports with an event that may not come, or that another region does not know.
use Rattle.log_node.specs.declared.node.At.TheVariants.{Event}
use Rattle.std.specs.Prelude.{List, [], ◌∷◌, codes, None, ℕ}
use Rattle.log_node.specs.declared.marks.Outcome.TheVariants.{Final}
use Rattle.col_core.specs.declared.Event.TheVariants.{Settle, Raise, Give, Carry, Trim}
use Rattle.col_core.specs.declared.Entry.{Entry}
use Rattle.script_text.specs.declared.commands.What.TheVariants.{Append}
use Rattle.script_text.specs.declared.commands.Word.TheVariants as words
use Rattle.report_text.specs.declared.report.Answer.TheVariants as answers
use Rattle.report_text.specs.declared.report.ReplyLine.{ReplyLine}
use Rattle.wrong_reports.specs.Cases.{Case, a, b, e, w, x, id, key, counts, on_x, apart, asks, replies, to_a, to_both}
use Rattle.wrong_reports.specs.Cases.{column, empty, enters, by, point, shows}
use Rattle.log_node.specs.declared.ids.Id.{Id}
use Rattle.log_node.specs.declared.ids.Key.{Key}
use Rattle.log_node.specs.declared.ids.Counts.{Counts}
use Rattle.script_text.specs.declared.commands.What.TheVariants as whats
use Rattle.script_text.specs.declared.commands.What.TheVariants.{Sync, Pull}
use Rattle.wrong_reports.specs.Cases.{look}
use Rattle.wrong_reports.specs.Naming.{case}
use Rattle.wrong_reports.specs.Shown.{shown}
use Rattle.wrong_reports.specs.Reads.{scan, scanned, raise}
use Rattle.wrong_reports.specs.Columns.{one_append, stood, shows_columns, single, one_node}

-- EVENTS THAT MAY NOT COME: one event more, and the closing line after it
abbrev pub also : Entry → ℕ → List Key → Case
also entry clock line = shows_columns (record one_node {
  journal = single ∷ entry
      ∷ [];
  clock = clock;
  line = line;
} ∷ [])

-- 0 a single a.0 floor 0 wants 0 stamp 2
-- = clock 2 line a.0:2 queue - cut 1 base 0
abbrev pub a_stamp_that_is_not_next : Case
a_stamp_that_is_not_next = record {
  script = one_append;
  report = shows (to_a (replies 6 words.Append (answers.Stood 2 None (point x 0 0 ∷ [])) ∷ [])) []
      (column e x (enters a (id a 0) 0 2 ∷ []) 2 (key 2 (id a 0) ∷ []) [] (counts 1 0) (counts 0 0) ∷ []);
}

-- 0 a single a.0 floor 0 wants 0 stamp 1
-- 1 a single a.0 floor 1 wants 0 stamp 2
-- = clock 2 line a.0:1,a.0:2 queue - cut 2 base 0
abbrev pub an_id_that_enters_twice : Case
an_id_that_enters_twice = also (enters a (id a 0) 1 2) 2 (key 1 (id a 0) ∷ key 2 (id a 0) ∷ [])

-- 1 a settle a.1 final 2
-- = clock 2 line a.0:1,a.1:2 queue - cut 1 base 0
abbrev pub a_settling_of_what_is_not_open : Case
a_settling_of_what_is_not_open = also (by a (Settle (id a 1) (Final 2)) 0) 2 (key 1 (id a 0) ∷ key 2 (id a 1) ∷ [])

-- 1 a trim 0, which gives a stamp
abbrev pub a_trim_with_a_stamp : Case
a_trim_with_a_stamp = also (by a (Trim (counts 0 0)) 1) 1 (key 1 (id a 0) ∷ [])

-- 1 . trim 0, by a client that the script lacks
abbrev pub an_event_by_nobody : Case
an_event_by_nobody = also (by b (Trim (counts 0 0)) 0) 1 (key 1 (id a 0) ∷ [])

-- 6 append ok 1 x!0@0
-- 7 scan ok 1 nodes 1 x!1 x?2/1
-- + a.0 1 s
-- column e x
-- 0 a single a.0 floor 0 wants 0 stamp 1
-- 1 a raise 1
-- = clock 1 line a.0:1 queue - cut 1 base 0
abbrev pub a_raise_to_the_clock : Case
a_raise_to_the_clock = case (asks 6 a (Append on_x (codes "s")) ∷ scan 7 ∷ [])
    (stood ∷ scanned 7 1 (raise x (Event 1) ∷ []) (look x 2 (counts 1 0) ∷ []) 1 (shown 1 (codes "s") ∷ []) ∷ [])
    (record one_node { journal = single ∷ by a (Raise 1) 0 ∷ [] })

-- 6 pull nomemory
-- column e x
-- 0 a give e 0
-- = clock 0 line - queue - cut 0 base 0
abbrev pub a_give_to_its_own_region : Case
a_give_to_its_own_region = case (asks 6 a (Pull e x) ∷ []) (replies 6 words.Pull answers.NoMemory ∷ [])
    (column e x (by a (Give e 0) 0 ∷ []) 0 [] [] (counts 0 0) (counts 0 0))

-- 8 pull nomemory
-- column w x
-- 0 a give e 1
-- = clock 0 line - queue - cut 0,0 base 0,0
abbrev pub a_give_beyond_the_line : Case
a_give_beyond_the_line = record {
  script = apart (asks 8 a (Pull w x) ∷ []);
  report = shows (to_both (replies 8 words.Pull answers.NoMemory ∷ []) []) []
      (empty e x ∷ column w x (by a (Give e 1) 0 ∷ []) 0 [] [] (counts 0 0) (counts 0 0) ∷ []);
}

-- COPIES: a appends in e, and b of w pulls
-- 9 pull ok 1 give !1 carry !0
-- column e x
-- 0 a single a.0 floor 0 wants 0,0 stamp 1
-- 1 b give w 0
-- = clock 1 line a.0:1 queue - cut 1,0 base 0,0
abbrev pub carries : ReplyLine → List Entry → List Entry → Counts → Case
carries reply given carried cut = record {
  script = apart (asks 8 a (Append on_x (codes "s")) ∷ asks 9 b (Pull e x) ∷ []);
  report = shows (to_both (record stood { line = 8 } ∷ []) (reply ∷ [])) []
      (record one_node { journal = single ∷ given } ∷ column w x carried 0 [] [] cut (counts 0 0) ∷ []);
}

-- a pull that carried one node
abbrev pub pulled_one : ReplyLine
pulled_one = replies 9 words.Pull (answers.Pulled 1 (Event 1) (Event 0))

-- a carry of one node by the client b
abbrev pub carry : ℕ → ℕ → Id → Counts → Entry
carry region start id needs = by b (Carry region start (record { key = key 1 id; needs = needs } ∷ [])) 0

-- 0 b carry e 1 a.0:1/0,0
-- = clock 0 line - queue - cut 1,0 base 0,0
abbrev pub a_carry_with_a_gap : Case
a_carry_with_a_gap = carries pulled_one (by b (Give w 0) 0 ∷ []) (carry e 1 (id a 0) (counts 0 0) ∷ []) (counts 1 0)

-- 0 b carry w 0 a.0:1/0,0
-- = clock 0 line - queue - cut 0,0 base 0,0
abbrev pub a_carry_of_its_own_region : Case
a_carry_of_its_own_region = carries pulled_one (by b (Give w 0) 0 ∷ []) (carry w 0 (id a 0) (counts 0 0)
    ∷ []) (counts 0 0)

-- 0 b carry e 0 a.1:1/0,0
-- = clock 0 line - queue - cut 1,0 base 0,0
abbrev pub a_carry_of_what_the_origin_lacks : Case
a_carry_of_what_the_origin_lacks =
    carries pulled_one (by b (Give w 0) 0 ∷ []) (carry e 0 (id a 1) (counts 0 0) ∷ []) (counts 1 0)

-- 0 b carry e 0 a.0:1/1,0
-- = clock 0 line - queue - cut 0,0 base 0,0
abbrev pub a_carry_with_other_needs : Case
a_carry_with_other_needs = carries pulled_one (by b (Give w 0) 0 ∷ []) (carry e 0 (id a 0) (counts 1 0)
    ∷ []) (counts 0 0)

-- 9 pull nomemory
-- column e x
-- 0 a single a.0 floor 0 wants 0,0 stamp 1
-- 1 b give w 1
-- column w x
-- = clock 0 line - queue - cut 0,0 base 0,0
abbrev pub noted_more_than_is_held : Case
noted_more_than_is_held = carries (replies 9 words.Pull answers.NoMemory) (by b (Give w 1) 0 ∷ []) [] (counts 0 0)

-- 8 pull ok 0 give !0 carry !0
-- column e x
-- 0 b give w 0
-- = clock 0 line - queue - cut 0,0 base 0,0
-- column w x
-- 0 b carry e 0
-- = clock 0 line - queue - cut 0,0 base 0,0
abbrev pub a_carry_of_nothing : Case
a_carry_of_nothing = record {
  script = apart (asks 8 b (Pull e x) ∷ []);
  report = shows (to_both [] (replies 8 words.Pull (answers.Pulled 0 (Event 0) (Event 0)) ∷ [])) []
      (column e x (by b (Give w 0) 0 ∷ []) 0 [] [] (counts 0 0) (counts 0 0)
      ∷ column w x (by b (Carry e 0 []) 0 ∷ []) 0 [] [] (counts 0 0) (counts 0 0) ∷ []);
}

-- 8 append ok 1 x!0@0
-- 9 sync ok x?1/1,0 plays 1
-- + a.0 1 s
-- 10 trim ok !1 base 0,0
-- column e x
-- 0 a single a.0 floor 0 wants 0,0 stamp 1
-- 1 a trim 1,0
-- = clock 1 line a.0:1 queue - cut 1,0 base 1,0
abbrev pub a_base_that_forgets_another_region : Case
a_base_that_forgets_another_region = record {
  script = apart (asks 8 a (Append on_x (codes "s")) ∷ asks 9 a (Sync x) ∷ asks 10 a (whats.Trim x) ∷ []);
  report = shows (to_both (record stood { line = 8 }
      ∷ record {
        line = 9;
        word = words.Sync;
        answer = answers.Synced (look x 1 (counts 1 0)) 1;
        nodes =
            shown 1 (codes "s") ∷ [];
      }
      ∷ replies 10 words.Trim (answers.Based (Event 1) (counts 0 0)) ∷ []) []) []
      (record one_node { journal = single ∷ by a (Trim (counts 1 0)) 0 ∷ []; base = counts 1 0 } ∷ empty w x ∷ []);
}
