-- Reports of one sync of an empty column, of which one thing is wrong.
use Rattle.std.specs.Prelude.{List, [], ◌∷◌, codes, None}
use Rattle.script_text.specs.declared.commands.What.TheVariants.{Sync}
use Rattle.script_text.specs.declared.commands.Word.TheVariants as words
use Rattle.script_text.specs.declared.script.Script.{Script}
use Rattle.report_text.specs.declared.report.Answer.{Answer}
use Rattle.report_text.specs.declared.report.Answer.TheVariants as answers
use Rattle.report_text.specs.declared.report.ClientReport.{ClientReport}
use Rattle.wrong_reports.specs.Cases.{Case, a, e, x, counts, alone, asks, replies, to_a, look, empty, point, shows}

-- 6 a sync x
abbrev pub one_sync : Script
one_sync = alone (asks 6 a (Sync x) ∷ [])

-- the column e x, in which nothing happened
abbrev pub of_one_sync : List ClientReport → Case
of_one_sync clients = record { script = one_sync; report = shows clients [] (empty e x ∷ []) }

-- a sync that is answered so
abbrev pub answered : Answer → Case
answered answer = of_one_sync (to_a (replies 6 words.Sync answer ∷ []))

-- client a
abbrev pub a_missing_reply : Case
a_missing_reply = of_one_sync (to_a [])

-- client a
-- 7 sync ok x?0/0 plays 0
abbrev pub a_wrong_line : Case
a_wrong_line = of_one_sync (to_a (replies 7 words.Sync (answers.Synced (look x 0 (counts 0 0)) 0) ∷ []))

-- client a
-- 6 scan ok x?0/0 plays 0
abbrev pub a_wrong_word : Case
a_wrong_word = of_one_sync (to_a (replies 6 words.Scan (answers.Synced (look x 0 (counts 0 0)) 0) ∷ []))

-- client b
-- 6 sync ok x?0/0 plays 0
abbrev pub a_wrong_name : Case
a_wrong_name =
    of_one_sync (record {
      name = codes "b";
      replies =
          replies 6 words.Sync (answers.Synced (look x 0 (counts 0 0)) 0) ∷ [];
    } ∷ [])

-- 6 sync ok 1 x!0@0
abbrev pub another_commands_answer : Case
another_commands_answer = answered (answers.Stood 1 None (point x 0 0 ∷ []))

-- 6 sync ok x?0/0 plays 1
abbrev pub more_plays_than_nodes : Case
more_plays_than_nodes = answered (answers.Synced (look x 0 (counts 0 0)) 1)

-- 6 sync ok x?1/0 plays 0
abbrev pub a_look_at_what_is_not_there : Case
a_look_at_what_is_not_there = answered (answers.Synced (look x 1 (counts 0 0)) 0)

-- 6 sync ok x?0/1 plays 0
abbrev pub a_snapshot_of_what_is_not_there : Case
a_snapshot_of_what_is_not_there = answered (answers.Synced (look x 0 (counts 1 0)) 0)
