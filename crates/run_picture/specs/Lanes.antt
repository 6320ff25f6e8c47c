-- The lanes of columns, and what a column holds of each region's chain.
use Rattle.std.specs.Prelude.{ℕ, ◌+◌, ◌-◌, ◌*◌, ◌^◌, ◌==◌, min, List, [], ◌∷◌, ◌++◌, length, decimal, codes, if◌then◌else◌}
use Rattle.std.specs.List.{fold, flat_map}
use Rattle.log_node.specs.Vectors.{at}
use Rattle.col_core.specs.declared.Entry.{Entry}
use Rattle.col_core.specs.Cuts.{carried}
use Rattle.script_text.specs.declared.script.Script.{Script}
use Rattle.report_text.specs.declared.report.ColumnReport.{ColumnReport}
use Rattle.report_text.specs.declared.report.Report.{Report}
use Rattle.run_picture.specs.Pieces.{text_shown, texts_joined}
use Rattle.run_picture.specs.Marks.{left_out}
use Rattle.run_picture.specs.Boxes.{lane_of}
use Rattle.run_picture.specs.Spots.{lane_top}

-- how many nodes of the region were carried to the column, up to the greatest number of 64 bits
abbrev pub carried_count : ℕ → List Entry → ℕ
carried_count region journal = fold (λ n entry. min (n + length (carried region entry.event)) (2 ^ 64 - 1)) 0 journal

-- how many nodes of a region a column holds: of its own the line, and of another what was carried
abbrev pub held_of : ColumnReport → ℕ → ℕ
held_of column region = if region == column.region then length column.line else carried_count region column.journal

-- a lane: its colour, its region, and its clock
abbrev pub lane_start : Script → ColumnReport → List ℕ
lane_start script column =
    texts_joined (codes "<g transform='translate(0," ∷ decimal (lane_top (lane_of script column)) ∷ codes ")' class='lane r"
    ∷ decimal column.region ∷ codes "'><use href='#l'/><text x='18' y='25'>" ∷ text_shown column.colour_name
    ∷ codes "</text><text x='18' y='43'>in " ∷ text_shown column.region_name
    ∷ codes "</text><text x='18' y='59'>clock " ∷ decimal column.clock ∷ codes "</text>" ∷ [])

-- how many of its nodes are not shown, where there are any
abbrev pub left_out_text : ℕ → List ℕ
left_out_text count =
    if count == 0 then texts_joined (codes "</g>\n" ∷ [])
    else texts_joined (codes "<text x='18' y='75'>" ∷ decimal count ∷ codes " not shown</text></g>\n" ∷ [])

-- what a column holds of the chain of another column of its colour, or of its own
abbrev pub holding_text : Script → ColumnReport → ColumnReport → List ℕ
holding_text script column origin =
    texts_joined (codes "<text x='130' y='" ∷ decimal (lane_top (lane_of script column) + 25 + 16 * origin.region) ∷ codes "'>"
    ∷ text_shown origin.region_name ∷ codes ": holds " ∷ decimal (held_of column origin.region)
    ∷ codes ", plays " ∷ decimal (at column.cut origin.region)
    ∷ codes ", dropped " ∷ decimal (at column.base origin.region) ∷ codes "</text>\n" ∷ [])

-- the same where the other column is of its colour, else nothing
abbrev pub origin_text : Script → ColumnReport → ColumnReport → List ℕ
origin_text script column origin = if origin.colour == column.colour then holding_text script column origin else []

-- a lane, and what its column holds of each region's chain of its colour
abbrev pub column_text : Script → Report → ℕ → ColumnReport → List ℕ
column_text script report last column =
    lane_start script column ++ left_out_text (left_out last column) ++ flat_map (origin_text script column) report.columns
