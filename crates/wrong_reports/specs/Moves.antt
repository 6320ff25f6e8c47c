-- Reports of pulls, trims and syncs over two regions or after a trim that are wrong.
use Rattle.log_node.specs.declared.ids.Counts.{Counts}
use Rattle.std.specs.Prelude.{ℕ, List, [], ◌∷◌, codes}
use Rattle.log_node.specs.declared.node.At.{At}
use Rattle.log_node.specs.declared.node.At.TheVariants.{Event, Look}
use Rattle.col_core.specs.declared.Event.TheVariants.{Give, Carry, Trim}
use Rattle.col_core.specs.declared.Entry.{Entry}
use Rattle.script_text.specs.declared.commands.What.TheVariants.{Append, Sync}
use Rattle.script_text.specs.declared.commands.What.TheVariants as whats
use Rattle.script_text.specs.declared.commands.Word.TheVariants as words
use Rattle.script_text.specs.declared.script.Command.{Command}
use Rattle.report_text.specs.declared.report.Answer.TheVariants as answers
use Rattle.report_text.specs.declared.report.ReplyLine.{ReplyLine}
use Rattle.wrong_reports.specs.Cases.{Case, a, b, e, w, x, y, id, key, counts, on_x, apart, script, asks, replies}
use Rattle.wrong_reports.specs.Cases.{to_both, look, empty, by, shows}
use Rattle.wrong_reports.specs.Naming.{case, append, stood_at, one_node, trim, trimmed}
use Rattle.wrong_reports.specs.Columns.{single}
use Rattle.wrong_reports.specs.Shown.{shown}

-- 6 trim ok !0 base 1
-- column e x
-- 0 a trim 0
-- = clock 0 line - queue - cut 0 base 0
abbrev pub a_base_that_is_not_there : Case
a_base_that_is_not_there =
    case (asks 6 a (whats.Trim x) ∷ []) (replies 6 words.Trim (answers.Based (Event 0) (counts 1 0))
    ∷ []) (trimmed (trim ∷ []))

-- 6 trim ok !0 base 0
-- column e x
-- 0 a trim 1
-- = clock 0 line - queue - cut 0 base 0
abbrev pub a_trim_beyond_the_snapshot : Case
a_trim_beyond_the_snapshot =
    case (asks 6 a (whats.Trim x) ∷ []) (replies 6 words.Trim (answers.Based (Event 0) (counts 0 0)) ∷ [])
    (trimmed (by a (Trim (counts 1 0)) 0 ∷ []))

-- 6 sync trimmed x 0
abbrev pub trimmed_where_nothing_is : Case
trimmed_where_nothing_is = case (asks 6 a (Sync x)
    ∷ []) (replies 6 words.Sync (answers.Trimmed x (counts 0 0)) ∷ []) (empty e x)

-- 6 sync trimmed y 0
abbrev pub trimmed_in_another_colour : Case
trimmed_in_another_colour = case (asks 6 a (Sync x)
    ∷ []) (replies 6 words.Sync (answers.Trimmed y (counts 0 0)) ∷ []) (empty e x)

-- PULLS: a appends in e, and b of w pulls
abbrev pub pulls : List ReplyLine → List Command → List Entry → List Entry → Counts → Case
pulls lines more given carried cut = record {
  script = apart (asks 8 a (Append on_x (codes "s")) ∷ asks 9 b (whats.Pull e x) ∷ more);
  report = shows (to_both (stood_at 8 1 0 0 ∷ []) lines) []
      (record one_node { journal = single ∷ given } ∷ record (empty w x) { journal = carried; cut = cut } ∷ []);
}

-- a pull of so many nodes, by a give and a carry
abbrev pub pulled : ℕ → ℕ → ℕ → At → ReplyLine
pulled line nodes place carry = replies line words.Pull (answers.Pulled nodes (Event place) carry)

-- the client b gives from a number on
abbrev pub given_from : ℕ → Entry
given_from from = by b (Give w from) 0

-- the client b carries the first node of a
abbrev pub carried_one : Entry
carried_one = by b (Carry e 0 (record { key = key 1 (id a 0); needs = counts 0 0 } ∷ [])) 0

-- 9 pull sameregion
abbrev pub another_region_taken_for_its_own : Case
another_region_taken_for_its_own = pulls (replies 9 words.Pull answers.SameRegion ∷ []) [] [] [] (counts 0 0)

-- 9 pull ok 0 give !1 carry ?0
-- column e x
-- 0 a single a.0 floor 0 wants 0,0 stamp 1
-- 1 b give w 0
abbrev pub a_pull_that_leaves_a_node : Case
a_pull_that_leaves_a_node = pulls (pulled 9 0 1 (Look 0) ∷ []) [] (given_from 0 ∷ []) [] (counts 0 0)

-- 9 pull ok 2 give !1 carry !0
-- column e x
-- 0 a single a.0 floor 0 wants 0,0 stamp 1
-- 1 b give w 0
-- column w x
-- 0 b carry e 0 a.0:1/0,0
abbrev pub a_pull_of_more_nodes : Case
a_pull_of_more_nodes = pulls (pulled 9 2 1 (Event 0) ∷ []) [] (given_from 0 ∷ []) (carried_one ∷ []) (counts 1 0)

-- 9 pull ok 1 give !1 carry !0
-- 10 pull ok 0 give !2 carry ?1
-- column e x
-- 0 a single a.0 floor 0 wants 0,0 stamp 1
-- 1 b give w 0
-- 2 b give w 0
-- column w x
-- 0 b carry e 0 a.0:1/0,0
abbrev pub a_pull_that_asks_again : Case
a_pull_that_asks_again = pulls (pulled 9 1 1 (Event 0) ∷ pulled 10 0 2 (Look 1)
    ∷ []) (asks 10 b (whats.Pull e x) ∷ [])
    (given_from 0 ∷ given_from 0 ∷ []) (carried_one ∷ []) (counts 1 0)

-- 9 pull ok 1 give !2 carry !0
-- column e x
-- 0 a single a.0 floor 0 wants 0,0 stamp 1
-- 1 b give w 0
-- 2 b give w 0
-- column w x
-- 0 b carry e 0 a.0:1/0,0
abbrev pub a_pull_that_gives_twice : Case
a_pull_that_gives_twice = pulls (pulled 9 1 2 (Event 0) ∷ []) [] (given_from 0 ∷ given_from 0
    ∷ []) (carried_one ∷ []) (counts 1 0)

-- 9 pull ok 1 give !1 carry !0
-- column e x
-- 0 a single a.0 floor 0 wants 0,0 stamp 1
-- 1 b give w 1
-- column w x
-- 0 b carry e 0 a.0:1/0,0
abbrev pub a_give_of_more_than_was_held : Case
a_give_of_more_than_was_held = pulls (pulled 9 1 1 (Event 0) ∷ []) [] (given_from 1 ∷ []) (carried_one ∷ [])
    (counts 1 0)

-- A SYNC BELOW THE BASE: a and b of the region e; a trims what b did not play
-- 7 append ok 1 x!0@0
-- 8 sync ok x?1/1 plays 1
-- + a.0 1 s
-- 9 trim ok !1 base 1
-- 10 sync ok x?2/1 plays 1
-- + a.0 1 s
-- column e x
-- 0 a single a.0 floor 0 wants 0 stamp 1
-- 1 a trim 1
-- = clock 1 line a.0:1 queue - cut 1 base 1
abbrev pub a_sync_of_what_was_trimmed : Case
a_sync_of_what_was_trimmed = record {
  script = script 1 1 (e ∷ e ∷ []) [] (append 7 ∷ asks 8 a (Sync x) ∷ asks 9 a (whats.Trim x)
      ∷ asks 10 b (Sync x) ∷ []);
  report = shows
      (to_both (stood_at 7 1 0 0
      ∷ record {
        line = 8;
        word = words.Sync;
        answer = answers.Synced (look x 1 (counts 1 0)) 1;
        nodes =
            shown 1 (codes "s") ∷ [];
      }
      ∷ replies 9 words.Trim (answers.Based (Event 1) (counts 1 0)) ∷ [])
      (record {
        line = 10;
        word = words.Sync;
        answer = answers.Synced (look x 2 (counts 1 0)) 1;
        nodes =
            shown 1 (codes "s") ∷ [];
      } ∷ []))
      [] (record one_node { journal = single ∷ by a (Trim (counts 1 0)) 0 ∷ []; base = counts 1 0 } ∷ []);
}
