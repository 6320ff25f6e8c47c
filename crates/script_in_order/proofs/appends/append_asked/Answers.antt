use Rattle.std.proofs.Common.{[]}
use Rattle.world_code.specs.WorldView.{world_of}
use Rattle.script_in_order.proofs.CommandKinds.{all_do}
use Rattle.script_in_order.proofs.appends.append_asked.Goals as goal

pub returns-clause-ok : goal.returns-clause-ok
returns-clause-ok c =
    all_do c.args.objects.now c.args.command.now c.requires.asks c.append.result (world_of c.args.world.now) (world_of c.append.new.world) []
    c.append.ensures.ok
