use Rattle.object_law.specs.Decided.{AreDecisionsOf}
use Rattle.object_law.proofs.decisions_by_stamp.decisions_by_stamp.Given as goal

-- the decisions of the clients so far
abbrev pub invariant-loop-client : goal.invariant-loop-client
invariant-loop-client l = AreDecisionsOf l.subject l.client l.decisions.items
