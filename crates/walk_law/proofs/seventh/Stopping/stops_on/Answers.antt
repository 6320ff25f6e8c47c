use Rattle.log_node.proofs.CallerLemmas.{ok_then}
use Rattle.lawful_run.specs.Callers.{caller_of}
use Rattle.walk_law.specs.Behind.{steps_untold}
use Rattle.walk_law.specs.Seventh.{opening_in}
use Rattle.walk_law.specs.Walking.{log_walked}
use Rattle.walk_law.proofs.SeventhLemmas.{on_told}
use Rattle.walk_law.proofs.seventh.Stopping.stops_on.Goals as goal

pub returns : goal.returns
returns c = λ kept is.
    let walked = c.args.subject.now in
    ok_then c.stop_in.result _ _
    (on_told (opening_in c.args.self.now.open.items walked.script.shape.colours) (log_walked walked)
    (caller_of walked.script c.args.client) kept (steps_untold walked c.args.client kept.ids) c.args.steps c.args.row.now
    c.as_slice-marks.result.now c.as_slice-marks.ensures c.if-not-has_decided.ensures)
    (c.stop_in.ensures kept is)
