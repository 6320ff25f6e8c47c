use Rattle.std.proofs.Common.{◌≡◌, drop}
use Rattle.run_rules.specs.Telling.{floor_told, marked_colours}
use Rattle.walk_law.specs.RowsBeside.{histories_in}
use Rattle.walk_law.proofs.rows.floor_of.Given as goal

-- no mark so far tells it
abbrev pub invariant-loop-mark : goal.invariant-loop-mark
invariant-loop-mark l =
    floor_told l.id (histories_in l.columns) (marked_colours l.marks)
    ≡ floor_told l.id (histories_in l.columns) (marked_colours (drop l.mark-index l.marks))
