use Rattle.std.proofs.Common.{sym, subst, ap}
use Rattle.log_node.specs.Sets.{members}
use Rattle.world_laws.specs.Worlds.{World}
use Rattle.world_code.specs.WorldView.{world_of}
use Rattle.report_text.specs.declared.report.Answer.TheVariants as answers
use Rattle.script_in_order.specs.Folds.{IsLinesFold}
use Rattle.script_in_order.specs.Stamped.{end_in}
use Rattle.script_in_order.specs.Telling.{TellsAt, tells_by}
use Rattle.script_in_order.proofs.GetSteps.{read_to}
use Rattle.script_in_order.proofs.LinesFolds.{lines_stay}
use Rattle.script_in_order.proofs.TellSteps.{told_not_begun}
use Rattle.script_in_order.proofs.told.tell.Goals as goal

pub tell_by-requires-clause-folded : goal.tell_by-requires-clause-folded
tell_by-requires-clause-folded g c =
    let w = world_of c.args.world.now in
    let v = world_of c.stamped_read.new.world in
    let cs = members c.args.colours in
    lines_stay w v c.agrees.ensures
    (read_to w v c.args.client cs (end_in v c.args.client cs c.in-Ok.read) c.in-Ok.ensures.ok) g.F.NodeFold.Holds
    c.args.fold.now c.requires.folded

pub returns-in-Err-clause-is_told : goal.returns-in-Err-clause-is_told
returns-in-Err-clause-is_told g c =
    let w = world_of c.args.world.now in
    let cs = members c.args.colours in
    let tells = tells_by g.F.NodeFold.told g.F.Shown.shown g.F.Shown.untold in
    subst (λ (x : World). TellsAt tells c.args.client cs c.args.own c.args.row c.args.points w x
    (answers.UnreadNoMemory c.args.own.stamp)) (sym (ap world_of c.in-Err.ensures.err))
    (told_not_begun tells c.args.client cs c.args.own c.args.row c.args.points w c.requires.some)

pub returns-in-Err-clause-folded : goal.returns-in-Err-clause-folded
returns-in-Err-clause-folded g c =
    subst (λ (x : World). IsLinesFold g.F.NodeFold.Holds x c.args.fold.now) (sym (ap world_of c.in-Err.ensures.err))
    c.requires.folded

pub returns-in-Ok-clause-is_told : goal.returns-in-Ok-clause-is_told
returns-in-Ok-clause-is_told g c = c.tell_by.ensures.is_told (world_of c.args.world.now) c.in-Ok.ensures.ok
