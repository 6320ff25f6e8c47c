use Rattle.walk_law.specs.Finds.{decision_at}
use Rattle.object_law.proofs.GoingLemmas.{HaveFirst}
use Rattle.object_law.proofs.drafts.drafts_of.Given as goal

-- those of the clients so far
abbrev pub invariant-loop-client : goal.invariant-loop-client
invariant-loop-client l = HaveFirst l.subject (decision_at l.decisions) l.client l.table
