use Rattle.load_script.specs.Generated.{command_of}
use Rattle.load_script.proofs.Made.{one_made}
use Rattle.load_script.proofs.script.push_round.Goals as goal

pub loop-client-preserved : goal.loop-client-preserved
loop-client-preserved c = record {
  pushed = one_made (command_of c.args.count c.args.round) c.args.commands.now c.loop-client.commands c.push.new.self
      c.in_ok-command.field-0 c.loop-client.client c.loop-client.invariant.pushed c.in_ok-command.ensures
      (c.in_ok-push.ensures).ok;
}
