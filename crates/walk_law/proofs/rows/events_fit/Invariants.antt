use Rattle.std.proofs.Common.{take, map}
use Rattle.std.specs.List.{All}
use Rattle.col_core.specs.declared.Entry.{Entry}
use Rattle.col_core.specs.Rows.{FitsRows}
use Rattle.walk_law.specs.RowsBeside.{bare_row}
use Rattle.walk_law.proofs.rows.events_fit.Given as goal

abbrev pub invariant-loop-entry : goal.invariant-loop-entry
invariant-loop-entry l =
    All (λ (e : Entry). FitsRows (map (bare_row l.columns) l.rows) l.colour e.event) (take l.entry-index l.journal)
