use Rattle.std.proofs.Common.{◌∙◌, List, ap}
use Rattle.log_node.specs.Sets.{members}
use Rattle.world_code.specs.WorldView.{world_of}
use Rattle.report_text.specs.declared.report.PointPiece.{PointPiece}
use Rattle.script_meaning.specs.Stamped.{keys_read}
use Rattle.script_in_order.specs.Telling.{tells_by, told_in}
use Rattle.script_in_order.proofs.TellSteps.{read_as, told_unraised, told_refused, told_without, told_whole}
use Rattle.script_in_order.proofs.told.tell_by.Goals as goal

pub returns-in-Unraised-clause-is_told : goal.returns-in-Unraised-clause-is_told
returns-in-Unraised-clause-is_told g c = λ old reads.
    let w = world_of c.args.world.now in
    let cs = members c.args.colours in
    told_unraised (tells_by g.F.NodeFold.told g.F.Shown.shown g.F.Shown.untold) c.args.client cs c.args.own c.args.row
    c.args.points old w (read_as old w c.args.client cs _ _ c.in-Unraised.is reads)

pub returns-in-Refused-clause-is_told : goal.returns-in-Refused-clause-is_told
returns-in-Refused-clause-is_told g c = λ old reads.
    let w = world_of c.args.world.now in
    let cs = members c.args.colours in
    told_refused (tells_by g.F.NodeFold.told g.F.Shown.shown g.F.Shown.untold) c.args.client cs c.args.own c.args.row
    c.args.points old w c.in-Refused.colour c.in-Refused.base
    (read_as old w c.args.client cs _ _ c.in-Refused.is reads)

pub returns-in-Ok-clause-is_told : goal.returns-in-Ok-clause-is_told
returns-in-Ok-clause-is_told g c = λ old reads.
    let w = world_of c.args.world.now in
    let cs = members c.args.colours in
    let keys = keys_read w c.args.client c.in-Whole.stamp cs in
    told_whole (tells_by g.F.NodeFold.told g.F.Shown.shown g.F.Shown.untold) c.args.client cs c.args.own c.args.row
    c.args.points old w c.in-Whole.stamp c.in-Whole.raises c.in-Whole.syncs keys
    (read_as old w c.args.client cs _ _ c.in-Whole.is reads) c.show.result
    (c.show.ensures
    ∙ (ap (λ told. g.F.Shown.shown told c.args.row c.in-Ok.points c.in-Whole.stamp c.in-Whole.raises c.in-Whole.syncs)
    c.in-Ok.ensures.told
    ∙ ap (λ (points : List PointPiece). g.F.Shown.shown (told_in g.F.NodeFold.told g.F.Shown.untold w keys c.args.own)
    c.args.row points c.in-Whole.stamp c.in-Whole.raises c.in-Whole.syncs) c.in-Ok.ensures.points))

pub returns-in-Err-clause-is_told : goal.returns-in-Err-clause-is_told
returns-in-Err-clause-is_told g c = λ old reads.
    let w = world_of c.args.world.now in
    let cs = members c.args.colours in
    told_without (tells_by g.F.NodeFold.told g.F.Shown.shown g.F.Shown.untold) c.args.client cs c.args.own c.args.row
    c.args.points old w c.in-Whole.stamp c.in-Whole.raises c.in-Whole.syncs
    (keys_read w c.args.client c.in-Whole.stamp cs) (read_as old w c.args.client cs _ _ c.in-Whole.is reads)
