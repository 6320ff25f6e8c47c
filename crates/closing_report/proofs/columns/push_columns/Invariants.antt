use Rattle.std.proofs.Common.{◌≡◌, ◌++◌, map}
use Rattle.closing_report.specs.Columns.{column_shown}
use Rattle.closing_report.proofs.columns.push_columns.Given as goal

-- the columns so far
abbrev pub invariant-loop-column : goal.invariant-loop-column
invariant-loop-column l = l.reports ≡ l.initial.reports ++ map (column_shown l.regions l.colours) l.yielded
