use Rattle.std.proofs.Common.{take}
use Rattle.std.specs.List.{flat_map}
use Rattle.run_picture.specs.Lanes.{column_text}
use Rattle.report_text.specs.Output.{Adds}
use Rattle.run_picture.proofs.lanes.put_columns.Given as goal

-- the columns before this one are put out
abbrev pub invariant-loop-column : goal.invariant-loop-column
invariant-loop-column g l =
    Adds (g.O.Output.state l.fn.out) (g.O.Output.state l.out)
    (flat_map (column_text l.script l.report l.last) (take l.column-index l.columns))
