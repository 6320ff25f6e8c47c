use Rattle.bench.specs.Writers.{IsWriter}
use Rattle.bench.proofs.turns.writers.write_all.Given as goal

abbrev pub invariant-loop : goal.invariant-loop
invariant-loop g l = IsWriter l.cell l.writer
