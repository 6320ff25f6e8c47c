use Rattle.std.proofs.Common.{length}
use Rattle.run_check.proofs.StartLemmas.{StartsIn}
use Rattle.run_check.proofs.start.report_start.Given as goal

-- no report begins before the rest
abbrev pub invariant-loop-rest : goal.invariant-loop-rest
invariant-loop-rest l = StartsIn l.bytes l.rest

-- the rest gets shorter
abbrev pub decreases-loop-rest : goal.decreases-loop-rest
decreases-loop-rest l = length l.rest
