-- Reports of one append of which the column is wrong: an event that may not come, or another closing line.
use Rattle.std.specs.Prelude.{List, [], ◌∷◌, codes, None, true}
use Rattle.col_core.specs.declared.Entry.{Entry}
use Rattle.script_text.specs.declared.commands.What.TheVariants.{Append}
use Rattle.script_text.specs.declared.commands.Word.TheVariants as words
use Rattle.script_text.specs.declared.script.Script.{Script}
use Rattle.report_text.specs.declared.report.Answer.TheVariants as answers
use Rattle.report_text.specs.declared.report.ReplyLine.{ReplyLine}
use Rattle.report_text.specs.declared.report.ColumnReport.{ColumnReport}
use Rattle.wrong_reports.specs.Cases.{Case, a, e, x, id, key, counts, on_x, alone, asks, replies, to_a, column}
use Rattle.wrong_reports.specs.Cases.{enters, point, shows}

-- 6 a append x s
abbrev pub one_append : Script
one_append = alone (asks 6 a (Append on_x (codes "s")) ∷ [])

-- 6 append ok 1 x!0@0
abbrev pub stood : ReplyLine
stood = replies 6 words.Append (answers.Stood 1 None (point x 0 0 ∷ []))

-- an append that stood, and these columns
abbrev pub shows_columns : List ColumnReport → Case
shows_columns columns = record { script = one_append; report = shows (to_a (stood ∷ [])) [] columns }

-- 0 a single a.0 floor 0 wants 0 stamp 1
abbrev pub single : Entry
single = enters a (id a 0) 0 1

-- = clock 1 line a.0:1 queue - cut 1 base 0
abbrev pub one_node : ColumnReport
one_node = column e x (single ∷ []) 1 (key 1 (id a 0) ∷ []) [] (counts 1 0) (counts 0 0)

-- = clock 2 line a.0:1 queue - cut 1 base 0
abbrev pub another_clock : Case
another_clock = shows_columns (record one_node { clock = 2 } ∷ [])

-- = clock 1 line - queue - cut 1 base 0
abbrev pub another_line : Case
another_line = shows_columns (record one_node { line = [] } ∷ [])

-- = clock 1 line a.0:1 queue a.0:1 cut 1 base 0
abbrev pub another_queue : Case
another_queue = shows_columns (record one_node { queue = record { key = key 1 (id a 0); settled = true } ∷ [] } ∷ [])

-- = clock 1 line a.0:1 queue - cut 0 base 0
abbrev pub another_cut : Case
another_cut = shows_columns (record one_node { cut = counts 0 0 } ∷ [])

-- = clock 1 line a.0:1 queue - cut 1 base 1
abbrev pub another_base : Case
another_base = shows_columns (record one_node { base = counts 1 0 } ∷ [])

-- column w x
abbrev pub another_regions_name : Case
another_regions_name = shows_columns (record one_node { region_name = codes "w" } ∷ [])

-- column e y
abbrev pub another_colours_name : Case
another_colours_name = shows_columns (record one_node { colour_name = codes "y" } ∷ [])

-- no column
abbrev pub a_missing_column : Case
a_missing_column = shows_columns []

-- report 2, of a script whose first line is `fuzzylog 1`
abbrev pub another_version : Case
another_version = record { script = one_append; report = record (shows (to_a (stood ∷ [])) [] (one_node ∷ [])) { version = 2 } }
