use Rattle.std.proofs.Common.{sym}
use Rattle.walk_law.proofs.FourthLemmas.{single_appended}
use Rattle.walk_law.proofs.own_seen.OwnSeen.singles.Goals as goal

pub returns-in-Some : goal.returns-in-Some
returns-in-Some c = λ caller kept untold stamp s.
    single_appended caller kept untold stamp c.args.points.now c.in-Some.point.now c.single.new.self (sym c.in-Some.ensures.value)
    (c.single.ensures caller kept stamp s)
