use Rattle.lawful_run.specs.Callers.{caller_of}
use Rattle.run_rules.specs.Told.{kept_after_append, stamp_told}
use Rattle.run_rules.specs.Telling.{log_of, replies_to}
use Rattle.walk_law.specs.Walking.{log_walked}
use Rattle.walk_law.proofs.keeping.Keeping.shows_behind.Goals as goal

pub returns : goal.returns
returns c = λ told kept untold colours has low leaves is.
    let caller = caller_of c.args.subject.now.script c.args.client in
    let log = log_of c.args.subject.now.report told in
    let replies = replies_to c.args.subject.now.report c.args.client in
    let stood = kept_after_append untold caller kept
    (stamp_told (log_walked c.args.subject.now) caller kept c.args.row c.args.points.now) c.args.row c.args.points.now in
    c.reads.ensures.kept told stood colours has low (c.in_ok-append_told.ensures.kept replies kept untold leaves is)
