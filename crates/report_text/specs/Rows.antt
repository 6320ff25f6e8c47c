-- The line of a begun row: whose it is, its marks, and what became of it.
use Rattle.std.specs.Prelude.{ℕ, List, ◌∷◌, ◌++◌, decimal, codes}
use Rattle.log_node.specs.declared.marks.Why.{Why}
use Rattle.log_node.specs.declared.marks.Why.TheVariants.{Memory, StampEnd}
use Rattle.log_node.specs.declared.marks.Mark.{Mark}
use Rattle.log_node.specs.declared.marks.Mark.TheVariants as marks
use Rattle.log_node.specs.declared.marks.ColourMark.{ColourMark}
use Rattle.log_node.specs.declared.marks.Outcome.{Outcome}
use Rattle.log_node.specs.declared.marks.Outcome.TheVariants.{Open, Gone, Final}
use Rattle.log_node.specs.declared.ids.Row.{Row}
use Rattle.report_text.specs.declared.report.RowReport.{RowReport}
use Rattle.report_text.specs.declared.report.Report.{Report}
use Rattle.report_text.specs.Names.{region_name, colour_name, client_name}
use Rattle.report_text.specs.Pieces.{line_end, spaced, id_text}

-- what was missing: memory, or a stamp
abbrev pub why_text : Why → List ℕ
why_text Memory = codes "memory"
why_text StampEnd = codes "stampend"

-- a tentative stamp, or what was missing; a dash while the colour has said nothing
abbrev pub mark_text : Mark → List ℕ
mark_text marks.None = codes "-"
mark_text (marks.Number stamp) = decimal stamp
mark_text (marks.Fenced why) = why_text why

-- COLOUR=MARK
abbrev pub colour_mark_text : Report → ColourMark → List ℕ
colour_mark_text report m = colour_name report m.colour ++ 61 ∷ mark_text m.mark

-- what became of a row or of an id: open, final under a stamp, or gone for what was missing
abbrev pub outcome_text : Outcome → List ℕ
outcome_text Open = codes "open"
outcome_text (Final stamp) = codes "final " ++ decimal stamp
outcome_text (Gone why) = codes "gone " ++ why_text why

-- the client's name, a dot, the row's number
abbrev pub row_number_text : Report → Row → List ℕ
row_number_text report row = client_name report row.client ++ 46 ∷ decimal row.number

-- the region, the row, the id of its node, its marks, and what became of it
abbrev pub row_line : Report → RowReport → List ℕ
row_line report r =
    codes "row " ++ region_name report r.region ++ 32 ∷ row_number_text report r.row ++ 32 ∷ id_text report r.id
    ++ spaced (colour_mark_text report) r.marks ++ 32 ∷ outcome_text r.last ++ line_end
