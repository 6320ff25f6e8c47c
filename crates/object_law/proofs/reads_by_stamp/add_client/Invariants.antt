use Rattle.object_law.proofs.ReadLemmas.{AreReadsTo}
use Rattle.object_law.proofs.reads_by_stamp.add_client.Given as goal

-- the reads up to this place
abbrev pub invariant-loop-place : goal.invariant-loop-place
invariant-loop-place l = AreReadsTo l.subject l.client l.place l.reads.items
