use Rattle.walk_law.specs.Finds.{decision_at}
use Rattle.object_law.proofs.GoingLemmas.{AreGone}
use Rattle.object_law.proofs.drafts.client_drafts.Given as goal

-- the commands so far are gone over
abbrev pub invariant-loop-place : goal.invariant-loop-place
invariant-loop-place l =
    AreGone l.subject l.client (decision_at l.decisions) l.place l.going.keeping l.going.places l.drafts
