use Rattle.std.proofs.Common.{◌≡◌, length}
use Rattle.std.specs.List.{flat_map, enumerate_from}
use Rattle.chain_store.specs.declared.closed.ClosedRegion.{ClosedRegion}
use Rattle.run_script.specs.EndReports.{nodes_in, rows_shown}
use Rattle.run_script.proofs.serving.ending.region_reports.Given as goal

-- the regions so far
abbrev pub invariant-loop-end : goal.invariant-loop-end
invariant-loop-end g l = record {
  place : l.region ≡ length l.yielded;
  rows_are : l.rows ≡ flat_map (rows_shown (nodes_in l.nodes)) (enumerate_from 0 l.yielded);
  columns_are : l.columns.items ≡ flat_map (λ (e : ClosedRegion). e.columns) l.yielded;
}
