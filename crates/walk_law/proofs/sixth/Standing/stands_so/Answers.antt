use Rattle.std.proofs.Common.{arith}
use Rattle.lawful_run.specs.Callers.{caller_of}
use Rattle.walk_law.specs.Fifth.{finding_in}
use Rattle.walk_law.specs.Walking.{log_walked}
use Rattle.walk_law.proofs.SixthLemmas.{so_told}
use Rattle.walk_law.proofs.sixth.Standing.stands_so.Goals as goal

pub returns : goal.returns
returns c = λ kept is.
    let above = c.if-floor-stamp.false in
    let floor = c.floor.ensures in
    let same = is.floor in
    so_told (log_walked c.args.subject.now) (caller_of c.args.subject.now.script c.args.client) kept c.args.stamp c.args.row
    (finding_in c.args.self.now.rows c.args.subject.now.report.rows) c.args.points.now (omega (arith, above, floor, same))
    (c.if-not-has_final_row.ensures kept is) c.stand_there.result (c.stand_there.ensures kept is)
