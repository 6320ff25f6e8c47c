use Rattle.std.proofs.Common.{◌∙◌, rules}
use Rattle.object_law.proofs.TreeKeys.{change_told}
use Rattle.object_law.proofs.thirteenth.TreePlays.tells_change.Goals as goal

pub returns-clause-told : goal.returns-clause-told
returns-clause-told c = λ commits.
    change_told c.args.subject.now c.args.nodes.now c.args.client c.args.what.now c.in-Some.object c.in_ok-play.play
    c.in_ok-play.ensures.play (c.in_ok-play.ensures.region ∙ c.own-region.ensures.own) c.in_ok-play.ensures.object
    c.in-Some.ensures c.args.failed c.args.stamp c.args.own c.args.read_stamp (search rules) c.told-told.result c.told-told.ensures
    c.is_told.result c.is_told.ensures

pub returns-clause-stands : goal.returns-clause-stands
returns-clause-stands c =
    c.put.ensures c.args.subject.now c.args.nodes.now c.in_ok-play.ensures.stands c.in_ok-play.ensures.play
