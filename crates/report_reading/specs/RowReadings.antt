-- The line of a begun row as it is read.
use Rattle.std.specs.Prelude.{Bool, ℕ, ◌==◌, List, drop, Option, Some, if◌then◌else◌}
use Rattle.log_node.specs.declared.ids.Row.{Row}
use Rattle.log_node.specs.declared.marks.Why.{Why}
use Rattle.log_node.specs.declared.marks.Why.TheVariants.{Memory, StampEnd}
use Rattle.log_node.specs.declared.marks.Mark.{Mark}
use Rattle.log_node.specs.declared.marks.Mark.TheVariants as marks
use Rattle.log_node.specs.declared.marks.ColourMark.{ColourMark}
use Rattle.log_node.specs.declared.marks.Outcome.{Outcome}
use Rattle.log_node.specs.declared.marks.Outcome.TheVariants.{Open, Gone, Final}
use Rattle.script_text.specs.declared.script.Script.{Script}
use Rattle.script_text.specs.Pieces.{is_digit}
use Rattle.report_text.specs.declared.report.RowReport.{RowReport}
use Rattle.report_reading.specs.Known.{Known}
use Rattle.report_reading.specs.Lists.{◌>>=◌, each_at}
use Rattle.report_reading.specs.Pieces.{first_of, number_at, small_at, named_at, id_at, behind_word}

-- what was missing
unfoldable pub why_at : List ℕ → Why × List ℕ
why_at bytes = if first_of bytes == 109 then (Memory, drop 6 bytes) else (StampEnd, drop 8 bytes)

-- a mark
unfoldable pub mark_at : List ℕ → Mark × List ℕ
mark_at bytes =
    if first_of bytes == 45 then (marks.None, drop 1 bytes)
    else if is_digit (first_of bytes) then (marks.Number (number_at bytes).0, (number_at bytes).1)
    else (marks.Fenced (why_at bytes).0, (why_at bytes).1)

-- a mark begins, behind a space
abbrev pub mark_begins : List ℕ → Bool
mark_begins bytes = behind_word bytes == 61

-- COLOUR=MARK
unfoldable pub colour_mark_at : Script → List ℕ → ColourMark × List ℕ
colour_mark_at script bytes =
    let name = named_at script.colours bytes in
    let mark = mark_at (drop 1 name.1) in
    (record { colour = name.0; mark = mark.0 }, mark.1)

-- what became of a row or of an id
unfoldable pub outcome_at : List ℕ → Outcome × List ℕ
outcome_at bytes =
    if first_of bytes == 111 then (Open, drop 4 bytes)
    else if first_of bytes == 102 then (Final (number_at (drop 6 bytes)).0, (number_at (drop 6 bytes)).1)
    else (Gone (why_at (drop 5 bytes)).0, (why_at (drop 5 bytes)).1)

-- a client's row
unfoldable pub row_number_at : Script → List ℕ → Row × List ℕ
row_number_at script bytes =
    let client = named_at script.clients bytes in
    let number = small_at (drop 1 client.1) in
    (record { client = client.0; number = number.0 }, number.1)

-- marks, each behind a space
abbrev pub marks_at : Known → List ℕ → Option (List ColourMark × List ℕ)
marks_at known bytes = each_at (λ _ b. mark_begins b) (λ _ b. Some (colour_mark_at known.script (drop 1 b))) bytes

-- a line of a row begins
abbrev pub row_begins : List ℕ → Bool
row_begins bytes = first_of bytes == 114

-- the line of a row
unfoldable pub row_at : Known → List ℕ → Option (RowReport × List ℕ)
row_at known bytes =
    let region = named_at known.script.regions (drop 4 bytes) in
    let row = row_number_at known.script (drop 1 region.1) in
    let id = id_at known.script (drop 1 row.1) in
    marks_at known id.1 >>= λ marks.
    let last = outcome_at (drop 1 marks.1) in
    Some (record { region = region.0; row = row.0; id = id.0; marks = marks.0; last = last.0 }, drop 1 last.1)
