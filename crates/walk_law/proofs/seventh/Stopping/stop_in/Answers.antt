use Rattle.std.proofs.Common.{length}
use Rattle.lawful_run.specs.Callers.{caller_of}
use Rattle.walk_law.specs.Behind.{steps_untold}
use Rattle.walk_law.specs.Seventh.{opening_in}
use Rattle.walk_law.specs.Walking.{log_walked}
use Rattle.walk_law.proofs.SeventhLemmas.{read_mark, stop_all, stop_more, stop_not}
use Rattle.walk_law.proofs.seventh.Stopping.stop_in.Goals as goal

pub returns-then-not-branch : goal.returns-then-not-branch
returns-then-not-branch c = λ kept is.
    let walked = c.args.subject.now in
    let marks = c.args.marks.now in
    stop_not (opening_in c.args.self.now.open.items walked.script.shape.colours) (log_walked walked)
    (caller_of walked.script c.args.client) kept (steps_untold walked c.args.client kept.ids) (length marks) c.args.steps marks
    c.loop-n.n _ (read_mark marks c.loop-n.n _ c.loop-n-test.true) c.in_ok-stops_in.field-0 (c.in_ok-stops_in.ensures kept is)
    c.if-not-branch.true

pub loop-n-preserved : goal.loop-n-preserved
loop-n-preserved c = λ kept is.
    let walked = c.args.subject.now in
    let marks = c.args.marks.now in
    stop_more (opening_in c.args.self.now.open.items walked.script.shape.colours) (log_walked walked)
    (caller_of walked.script c.args.client) kept (steps_untold walked c.args.client kept.ids) (length marks) c.args.steps marks
    c.loop-n.n _ (read_mark marks c.loop-n.n _ c.loop-n-test.true) (c.loop-n.invariant kept is) c.in_ok-stops_in.field-0
    (c.in_ok-stops_in.ensures kept is) c.if-not-branch.false

pub returns : goal.returns
returns c = λ kept is.
    let walked = c.args.subject.now in
    let marks = c.args.marks.now in
    stop_all (opening_in c.args.self.now.open.items walked.script.shape.colours) (log_walked walked)
    (caller_of walked.script c.args.client) kept (steps_untold walked c.args.client kept.ids) (length marks) c.args.steps marks
    c.loop-n.n c.loop-n-test.false (c.loop-n.invariant kept is)
