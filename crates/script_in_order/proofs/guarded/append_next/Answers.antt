use Rattle.std.proofs.Common.{[], sym, ◌∙◌}
use Rattle.world_code.specs.WorldView.{world_of}
use Rattle.script_in_order.proofs.CommandKinds.{does_what, all_do}
use Rattle.script_in_order.proofs.GuardSteps.{moves_on}
use Rattle.script_in_order.proofs.guarded.append_next.Goals as goal

pub returns-then-has_moved-clause-ok : goal.returns-then-has_moved-clause-ok
returns-then-has_moved-clause-ok c =
    does_what c.args.objects.now c.args.command.now c.requires.asks
    (moves_on c.args.command.now c.args.text.now c.args.colour (world_of c.args.world.now) c.moved.result
    (sym c.has_moved.ensures ∙ c.if-has_moved.true) c.moved.ensures)

pub returns-clause-ok : goal.returns-clause-ok
returns-clause-ok c =
    all_do c.args.objects.now c.args.command.now c.requires.asks c.enter_next.result (world_of c.args.world.now)
    (world_of c.enter_next.new.world) [] c.enter_next.ensures.ok
