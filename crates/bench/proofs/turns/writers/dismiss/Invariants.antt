use Rattle.std.proofs.Common.{◌≡◌, ◌+◌, length}
use Rattle.turn_cell.specs.Cells.{AreReady}
use Rattle.bench.specs.Writers.{no_tag, AreWriters}
use Rattle.bench.proofs.turns.writers.dismiss.Given as goal

abbrev pub invariant-loop-writer : goal.invariant-loop-writer
invariant-loop-writer g l = record {
  left : AreWriters l.cell l.writers.items;
  ready : AreReady no_tag l.cell l.passes;
  count : length l.writers.items + length l.passes ≡ length l.fn.writers.items;
}

abbrev pub decreases-loop-writer : goal.decreases-loop-writer
decreases-loop-writer g l = length l.writers.items
