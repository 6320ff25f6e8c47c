use Rattle.std.proofs.Common.{subst}
use Rattle.lawful_run.specs.Callers.{caller_of}
use Rattle.column_track.specs.Tracks.{Tells}
use Rattle.run_rules.specs.Telling.{replies_to}
use Rattle.walk_law.specs.Fifth.{finding_in}
use Rattle.walk_law.specs.Sixth.{StandsSo}
use Rattle.walk_law.specs.Walking.{log_walked}
use Rattle.walk_law.proofs.sixth.Standing.stands_told.Goals as goal

pub returns : goal.returns
returns c = λ kept is.
    subst (λ stamp. Tells c.stands_so.result (StandsSo (finding_in c.args.self.now.rows c.args.subject.now.report.rows)
    (log_walked c.args.subject.now) (caller_of c.args.subject.now.script c.args.client) kept stamp c.args.row c.args.points.now))
    (c.stamp_told-stamp.ensures (replies_to c.args.subject.now.report c.args.client) kept is) (c.stands_so.ensures kept is)
