use Rattle.std.proofs.Common.{◌∙◌}
use Rattle.lawful_run.specs.Callers.{caller_of}
use Rattle.walk_law.specs.Fifth.{EntersBeside, HasNextRow, finding_in, next_id}
use Rattle.walk_law.specs.Walking.{log_walked}
use Rattle.walk_law.proofs.EnteringLemmas.{beside_told}
use Rattle.walk_law.proofs.Lists.{told_so}
use Rattle.walk_law.proofs.Members.{ok_as}
use Rattle.walk_law.proofs.row_places.RowPlaces.enters_beside.Goals as goal

pub returns : goal.returns
returns c = λ kept is.
    let walked = c.args.subject.now in
    let caller = caller_of walked.script c.args.client in
    let find = finding_in c.args.self.now walked.report.rows in
    let colours = walked.script.shape.colours in
    ok_as c.has_next_row.result
    (HasNextRow colours (log_walked walked) caller kept c.as_slice.result.now (find c.own-own.result (next_id caller kept)))
    (EntersBeside find colours (log_walked walked) caller c.args.what.now kept c.args.row c.args.points.now)
    (beside_told find colours (log_walked walked) caller c.args.what.now kept c.args.row c.args.points.now c.own-own.result
    c.as_slice.result.now c.own-own.ensures.own (c.as_slice.ensures ∙ c.in_ok-asked.ensures kept is)
    (told_so c.enters_as_node.result (c.enters_as_node.ensures kept is) c.if-not-enters_as_node.false))
    (c.has_next_row.ensures kept is)
