use Rattle.walk_law.specs.Walking.{log_walked}
use Rattle.walk_law.proofs.FourthLemmas.{end_told}
use Rattle.walk_law.proofs.fourth.names_end.Goals as goal

pub returns-in-Stood : goal.returns-in-Stood
returns-in-Stood c = λ caller kept untold s low.
    end_told (log_walked c.args.subject.now) untold caller kept c.args.ended c.in-Stood.stamp c.in-Stood.point c.names_point.result
    c.in-Stood.is (c.names_point.ensures caller kept s) low
