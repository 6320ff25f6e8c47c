use Rattle.object_law.proofs.DecisionLists.{AreDecisionsTo}
use Rattle.object_law.proofs.decisions_by_stamp.add_client.Given as goal

-- the decisions up to this place
abbrev pub invariant-loop-place : goal.invariant-loop-place
invariant-loop-place l = AreDecisionsTo l.subject l.client l.place l.decisions.items
