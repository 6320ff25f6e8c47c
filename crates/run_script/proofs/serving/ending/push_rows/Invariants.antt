use Rattle.std.proofs.Common.{◌≡◌, ◌++◌, map}
use Rattle.run_script.specs.EndReports.{nodes_in, row_shown}
use Rattle.run_script.proofs.serving.ending.push_rows.Given as goal

-- the rows so far
abbrev pub invariant-loop-closed : goal.invariant-loop-closed
invariant-loop-closed l = l.reports ≡ l.initial.reports ++ map (row_shown (nodes_in l.nodes) l.region) l.yielded
