use Rattle.std.proofs.Common.{take}
use Rattle.std.specs.List.{flat_map}
use Rattle.run_picture.specs.Svg.{gone_row}
use Rattle.report_text.specs.Output.{Adds}
use Rattle.run_picture.proofs.svg.put_gone_rows.Given as goal

-- the rows before this one are gone through
abbrev pub invariant-loop-row : goal.invariant-loop-row
invariant-loop-row g l =
    Adds (g.O.Output.state l.fn.out) (g.O.Output.state l.out)
    (flat_map (gone_row l.report) (take l.row-index l.rows))
