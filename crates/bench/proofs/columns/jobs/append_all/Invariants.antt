use Rattle.chain_store.specs.Passes.{IsHolder}
use Rattle.bench.proofs.columns.jobs.append_all.Given as goal

abbrev pub invariant-loop-count : goal.invariant-loop-count
invariant-loop-count g l = IsHolder l.cell l.by l.pass
