use Rattle.walk_law.specs.RowsBeside.{FitRows}
use Rattle.walk_law.proofs.rows.all_events_fit.Given as goal

abbrev pub invariant-loop-colour : goal.invariant-loop-colour
invariant-loop-colour l = FitRows l.colour l.columns l.rows
