use Rattle.std.proofs.Common.{◌≡◌}
use Rattle.script_in_order.specs.Reports.{columns_shown}
use Rattle.script_in_order.proofs.reports.column_reports.Given as goal

-- the columns of the regions so far
abbrev pub invariant-loop-columns : goal.invariant-loop-columns
invariant-loop-columns l = l.reports ≡ columns_shown l.script l.yielded
