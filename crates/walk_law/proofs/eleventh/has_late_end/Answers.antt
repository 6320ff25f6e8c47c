use Rattle.std.proofs.Common.{◌∙◌, sym, subst}
use Rattle.walk_law.specs.Eleventh.{HasLowEnd}
use Rattle.walk_law.proofs.CauseLemmas.{both_told}
use Rattle.walk_law.proofs.Lists.{told_so}
use Rattle.walk_law.proofs.eleventh.has_late_end.Goals as goal

pub returns-else-not-is_only : goal.returns-else-not-is_only
returns-else-not-is_only c = λ kept is low.
    rw c.in-StampEnd.is (both_told _
    (sym (c.in_ok-asked-in-StampEnd.ensures kept is) ∙ (sym c.as_slice.ensures
    ∙ told_so c.is_only.result c.is_only.ensures c.if-not-is_only.false)) c.had_no_stamp.result
    (c.had_no_stamp.ensures kept is (subst (HasLowEnd c.args.subject.now.script.shape.colours) c.in-StampEnd.is low)))
