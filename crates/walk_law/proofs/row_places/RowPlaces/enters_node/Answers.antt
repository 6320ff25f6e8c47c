use Rattle.std.proofs.Common.{◌∙◌, sym, [], None}
use Rattle.lawful_run.specs.Callers.{caller_of}
use Rattle.walk_law.specs.Fifth.{EntersSo, OfAppended}
use Rattle.walk_law.proofs.EnteringLemmas.{several_told}
use Rattle.walk_law.proofs.Members.{ok_as}
use Rattle.walk_law.proofs.row_places.RowPlaces.enters_node.Goals as goal

pub returns-else-not-branch : goal.returns-else-not-branch
returns-else-not-branch c = λ kept is.
    let caller = caller_of c.args.subject.now.script c.args.client in
    let what = c.args.what.now in
    let enters = EntersSo c.args.self.now c.args.subject.now c.args.client what in
    ok_as c.enters_beside-in-StampEnd.result (enters kept None []) (OfAppended enters caller kept what c.args.answer.now)
    (several_told enters caller kept what c.args.answer.now c.in-StampEnd.colour c.in-StampEnd.is
    (sym (c.in_ok-is_several-in-StampEnd.ensures kept is) ∙ c.if-not-branch.false))
    (c.enters_beside-in-StampEnd.ensures kept is)
