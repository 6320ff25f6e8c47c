use Rattle.lawful_run.specs.Callers.{caller_of}
use Rattle.walk_law.specs.Walking.{log_walked}
use Rattle.walk_law.proofs.SixthLemmas.{there_told}
use Rattle.walk_law.proofs.points.stands_there.Goals as goal

pub returns : goal.returns
returns c = λ kept is.
    there_told (log_walked c.args.subject.now) (caller_of c.args.subject.now.script c.args.client) kept c.args.stamp c.args.row
    c.args.point (c.if-not-has_entered_by.ensures kept is) c.is_in_line.result (c.is_in_line.ensures kept is)
