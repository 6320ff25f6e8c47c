use Rattle.std.proofs.Common.{ap, sym, subst}
use Rattle.log_node.specs.Sets.{members}
use Rattle.part_fold.specs.Ruled.{IsRuled}
use Rattle.world_laws.specs.Worlds.{World}
use Rattle.world_code.specs.WorldView.{world_of}
use Rattle.script_in_order.specs.Folds.{IsLinesFold}
use Rattle.script_in_order.specs.Stamped.{end_in}
use Rattle.script_in_order.proofs.GetSteps.{read_to}
use Rattle.script_in_order.proofs.LinesFolds.{lines_stay}
use Rattle.script_in_order.proofs.PartSteps.{not_begun}
use Rattle.script_in_order.proofs.parts.decide_on.Goals as goal

pub decide_by-requires-clause-folded : goal.decide_by-requires-clause-folded
decide_by-requires-clause-folded c =
    let w = world_of c.args.world.now in
    let v = world_of c.stamped_read.new.world in
    let client = c.args.command.now.client in
    let cs = members c.args.colours in
    lines_stay w v c.agrees.ensures (read_to w v client cs (end_in v client cs c.in-Ok.read) c.in-Ok.ensures.ok) IsRuled
    c.args.ruled.now c.requires.folded

pub returns-in-Err-clause-decides : goal.returns-in-Err-clause-decides
returns-in-Err-clause-decides c = λ own is.
    not_begun c.args.command.now own c.args.sync c.args.waits (members c.args.colours) is c.requires.some
    (world_of c.args.world.now) (world_of c.stamped_read.new.world) (ap world_of c.in-Err.ensures.err)

pub returns-in-Err-clause-folded : goal.returns-in-Err-clause-folded
returns-in-Err-clause-folded c =
    subst (λ (x : World). IsLinesFold IsRuled x c.args.ruled.now) (sym (ap world_of c.in-Err.ensures.err)) c.requires.folded

pub returns-in-Ok-clause-decides : goal.returns-in-Ok-clause-decides
returns-in-Ok-clause-decides c = λ own is.
    c.decide_by.ensures.decides own (world_of c.args.world.now) is c.in-Ok.ensures.ok
