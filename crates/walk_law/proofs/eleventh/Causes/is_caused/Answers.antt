use Rattle.std.proofs.Common.{subst}
use Rattle.walk_law.specs.Eleventh.{HasLowColour}
use Rattle.walk_law.proofs.eleventh.Causes.is_caused.Goals as goal

pub returns-in-StampEnd : goal.returns-in-StampEnd
returns-in-StampEnd c = λ kept is low.
    rw c.in-StampEnd.is
    (c.has_end.ensures kept is (subst (HasLowColour c.args.subject.now.script.shape.colours) c.in-StampEnd.is low))

pub returns-in-Full : goal.returns-in-Full
returns-in-Full c = λ kept is low. rw c.in-Full.is (c.is_full.ensures c.args.client kept is)
