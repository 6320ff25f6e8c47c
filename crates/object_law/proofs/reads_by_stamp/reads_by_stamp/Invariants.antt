use Rattle.object_law.specs.Found.{AreReadsOf}
use Rattle.object_law.proofs.reads_by_stamp.reads_by_stamp.Given as goal

-- the reads of the clients so far
abbrev pub invariant-loop-client : goal.invariant-loop-client
invariant-loop-client l = AreReadsOf l.subject l.client l.reads.items
