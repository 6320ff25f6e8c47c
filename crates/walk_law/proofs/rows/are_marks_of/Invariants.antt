use Rattle.std.proofs.Common.{take}
use Rattle.std.specs.List.{All}
use Rattle.log_node.specs.declared.marks.ColourMark.{ColourMark}
use Rattle.col_core.specs.Rows.{IsMarkOf}
use Rattle.walk_law.specs.RowsBeside.{bare_row, histories_in}
use Rattle.walk_law.proofs.rows.are_marks_of.Given as goal

abbrev pub invariant-loop-mark : goal.invariant-loop-mark
invariant-loop-mark l =
    All (λ (m : ColourMark). IsMarkOf (histories_in l.columns m.colour) (bare_row l.columns l.row).node m.mark) (take l.mark-index l.marks)
