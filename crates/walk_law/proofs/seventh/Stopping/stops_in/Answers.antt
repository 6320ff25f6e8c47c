use Rattle.log_node.proofs.CallerLemmas.{ok_then}
use Rattle.lawful_run.specs.Callers.{caller_of}
use Rattle.walk_law.specs.Behind.{steps_untold}
use Rattle.walk_law.specs.Seventh.{opening_in}
use Rattle.walk_law.specs.Walking.{log_walked}
use Rattle.walk_law.proofs.SeventhLemmas.{in_told}
use Rattle.walk_law.proofs.seventh.Stopping.stops_in.Goals as goal

pub returns-then-not-has_settled : goal.returns-then-not-has_settled
returns-then-not-has_settled c = λ kept is so. c.if-not-has_settled.ensures kept is so.settled

pub returns : goal.returns
returns c = λ kept is.
    let walked = c.args.subject.now in
    ok_then c.took_no_later.result _ _
    (in_told (opening_in c.args.self.now.open.items walked.script.shape.colours) (log_walked walked)
    (caller_of walked.script c.args.client) kept (steps_untold walked c.args.client kept.ids) c.args.turn.k c.args.turn.steps c.args.turn.n
    c.args.mark c.if-not-has_marked.ensures (c.if-not-has_settled.ensures kept is))
    (c.took_no_later.ensures kept is)
