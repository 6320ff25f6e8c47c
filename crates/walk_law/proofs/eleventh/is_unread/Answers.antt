use Rattle.std.proofs.Common.{sym, subst}
use Rattle.walk_law.specs.Keepings.{IsFoundAt}
use Rattle.walk_law.proofs.CauseLemmas.{unread_told}
use Rattle.walk_law.proofs.eleventh.is_unread.Goals as goal

pub returns : goal.returns
returns c = λ replies kept is.
    unread_told replies (kept.reads c.args.object) c.read.result
    (subst (IsFoundAt replies (kept.reads c.args.object)) (sym c.read.ensures) (is.reads c.args.object c.ranges.object.fits))
    c.is_none.result c.is_none.ensures
