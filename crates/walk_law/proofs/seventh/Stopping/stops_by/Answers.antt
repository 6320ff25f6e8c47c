use Rattle.log_node.proofs.CallerLemmas.{ok_then}
use Rattle.lawful_run.specs.Callers.{caller_of}
use Rattle.walk_law.specs.Behind.{steps_untold}
use Rattle.walk_law.specs.Fifth.{finding_in}
use Rattle.walk_law.specs.Seventh.{opening_in}
use Rattle.walk_law.specs.Walking.{log_walked}
use Rattle.walk_law.proofs.SeventhLemmas.{stop_told}
use Rattle.walk_law.proofs.seventh.Stopping.stops_by.Goals as goal

pub returns : goal.returns
returns c = λ kept untold is same.
    let walked = c.args.subject.now in
    ok_then c.stops_so.result _ _
    (stop_told (finding_in c.args.self.now.rows walked.report.rows)
    (opening_in c.args.self.now.open.items walked.script.shape.colours) (log_walked walked) untold
    (caller_of walked.script c.args.client) kept c.args.what.now c.in-Stopped.steps c.args.answer.now
    (steps_untold walked c.args.client kept.ids) c.in-Stopped.is same c.if-not-asks_to_stop.ensures)
    (c.stops_so.ensures kept is)
