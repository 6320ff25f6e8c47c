use Rattle.std.proofs.Common.{◌≤◌, length}
use Rattle.chain_store.specs.Ends.{AreNewHolders}
use Rattle.bench.specs.Jobs.{AreJobs}
use Rattle.bench.proofs.columns.jobs.hire.Given as goal

abbrev pub invariant-loop : goal.invariant-loop
invariant-loop l = record {
  left : AreNewHolders l.cell (length l.passes.items) l.passes.items;
  few : length l.passes.items ≤ 4;
  hired : AreJobs l.jobs.items;
}
