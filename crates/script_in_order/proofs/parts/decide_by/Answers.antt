use Rattle.log_node.specs.Sets.{members}
use Rattle.part_fold.specs.Ruled.{IsRuled}
use Rattle.world_code.specs.WorldView.{world_of}
use Rattle.script_meaning.specs.Stamped.{keys_read}
use Rattle.lawful_run.specs.Asks.{rising}
use Rattle.script_in_order.proofs.GetSteps.{its_read}
use Rattle.script_in_order.proofs.LinesFolds.{lines_stay}
use Rattle.script_in_order.proofs.PartSteps.{decision_to, not_played, not_raised, not_ruled, ruled_so}
use Rattle.script_in_order.proofs.parts.decide_by.Goals as goal

pub returns-in-Unraised-clause-decides : goal.returns-in-Unraised-clause-decides
returns-in-Unraised-clause-decides c = λ own old is reads.
    let w = world_of c.args.world.now in
    not_raised c.args.command.now own c.args.sync c.args.waits old w
    (its_read old w c.args.command.now.client (members c.args.colours) (rising own) _ _ is c.in-Unraised.is reads)

pub returns-in-Refused-clause-decides : goal.returns-in-Refused-clause-decides
returns-in-Refused-clause-decides c = λ own old is reads.
    let w = world_of c.args.world.now in
    not_played c.args.command.now own c.args.sync c.args.waits old w c.in-Refused.colour c.in-Refused.base
    (its_read old w c.args.command.now.client (members c.args.colours) (rising own) _ _ is c.in-Refused.is reads)

pub returns-in-Ok-clause-decides : goal.returns-in-Ok-clause-decides
returns-in-Ok-clause-decides c = λ own old is reads.
    let w = world_of c.args.world.now in
    let client = c.args.command.now.client in
    ruled_so c.args.command.now own c.args.sync c.args.waits old w c.in-Whole.stamp c.in-Whole.raises c.in-Whole.syncs
    (members c.args.colours) is
    (its_read old w client (members c.args.colours) (rising own) _ _ is c.in-Whole.is reads)
    (world_of c.append_decision.new.world) c.in-Ok.commits c.in-Ok.text c.append_decision.result c.in-Ok.ensures.commits
    c.in-Ok.ensures.text c.append_decision.ensures

pub returns-in-Err-clause-decides : goal.returns-in-Err-clause-decides
returns-in-Err-clause-decides c = λ own old is reads.
    let w = world_of c.args.world.now in
    let client = c.args.command.now.client in
    not_ruled c.args.command.now own c.args.sync c.args.waits old w c.in-Whole.stamp c.in-Whole.raises c.in-Whole.syncs
    (keys_read w client c.in-Whole.stamp (rising own))
    (its_read old w client (members c.args.colours) (rising own) _ _ is c.in-Whole.is reads)

pub returns-in-Ok-clause-folded : goal.returns-in-Ok-clause-folded
returns-in-Ok-clause-folded c =
    let w = world_of c.args.world.now in
    let v = world_of c.append_decision.new.world in
    lines_stay w v c.agrees.ensures
    (decision_to c.args.command.now c.in-Ok.text c.args.sync.colour w v c.append_decision.result c.append_decision.ensures)
    IsRuled c.decision.new.ruled c.in-Ok.ensures.folded
