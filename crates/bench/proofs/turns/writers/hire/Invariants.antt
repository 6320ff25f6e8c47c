use Rattle.std.proofs.Common.{◌≡◌, ◌+◌, ◌≤◌, length}
use Rattle.turn_cell.specs.Cells.{AreNewPasses}
use Rattle.bench.specs.Writers.{no_tag, AreWriters}
use Rattle.bench.proofs.turns.writers.hire.Given as goal

abbrev pub invariant-loop-pass : goal.invariant-loop-pass
invariant-loop-pass g l = record {
  left : AreNewPasses no_tag l.cell (length l.passes.items) l.passes.items;
  hired : AreWriters l.cell l.writers.items;
  few : length l.passes.items ≤ 255;
  count : length l.passes.items + length l.writers.items ≡ length l.fn.passes;
}

abbrev pub decreases-loop-pass : goal.decreases-loop-pass
decreases-loop-pass g l = length l.passes.items
