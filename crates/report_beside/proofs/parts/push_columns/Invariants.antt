use Rattle.std.proofs.Common.{take}
use Rattle.std.specs.List.{flat_map}
use Rattle.report_text.specs.Columns.{column_lines}
use Rattle.report_beside.specs.Parts.{HaveMore}
use Rattle.report_beside.proofs.parts.push_columns.Given as goal

-- the columns so far stand behind the parts
abbrev pub invariant-loop-column : goal.invariant-loop-column
invariant-loop-column l = HaveMore (λ r. flat_map (column_lines r) (take l.column-index l.columns)) l.initial.parts.items l.parts.items
