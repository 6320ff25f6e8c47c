-- The parts of which a report's text is made.
use Rattle.std.specs.Prelude.{◌≡◌, ℕ, List, ◌++◌, codes}
use Rattle.std.specs.List.{flat_map}
use Rattle.report_text.specs.declared.report.Report.{Report}
use Rattle.report_text.specs.Pieces.{line_end}
use Rattle.report_text.specs.Replies.{client_lines, reply_lines}
use Rattle.report_text.specs.Rows.{row_line}
use Rattle.report_text.specs.Columns.{column_lines}
use Rattle.report_beside.specs.declared.parts.Part.{Part}
use Rattle.report_beside.specs.declared.parts.Part.TheVariants.{Client, Replies, Rows, Column}

-- a part's text in a report
abbrev pub part_text : Report → Part → List ℕ
part_text report (Client name) = codes "client " ++ name.now ++ line_end
part_text report (Replies replies) = flat_map (reply_lines report) replies.now
part_text report (Rows rows) = flat_map (row_line report) rows.now
part_text report (Column column) = column_lines report column.now

-- there are parts more, and this is their text
abbrev pub HaveMore : (Report → List ℕ) → List Part → List Part → Type 0
HaveMore text old new = (report : Report) → flat_map (part_text report) new ≡ flat_map (part_text report) old ++ text report

-- the parts are the report's clients, its rows and its columns
abbrev pub ArePartsOf : Report → List Part → Type 0
ArePartsOf report parts =
    flat_map (part_text report) parts
    ≡ flat_map (client_lines report) report.clients ++ flat_map (row_line report) report.rows
    ++ flat_map (column_lines report) report.columns
