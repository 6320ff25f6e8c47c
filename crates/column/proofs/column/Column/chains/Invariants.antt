use Rattle.std.proofs.Common.{◌≡◌, ℕ, ◌<◌, [], length}
use Rattle.std.specs.Prelude.{slice_index_or}
use Rattle.log_node.specs.Vectors.{at}
use Rattle.column.specs.Columns.{cut_of, AreItems}
use Rattle.column.proofs.column.Column.chains.Given as goal

-- the chains of the regions so far
abbrev pub invariant-loop-region : goal.invariant-loop-region
invariant-loop-region l = record {
  so_many : length l.items ≡ l.region;
  each : (region : ℕ) → region < l.region
      → AreItems l.self region (at l.from region) (at (cut_of l.self) region) (slice_index_or l.items region []);
}
