use Rattle.load_script.specs.Generated.{round_of}
use Rattle.load_script.proofs.Made.{one_list_made}
use Rattle.load_script.proofs.script.commands.Goals as goal

pub loop-round-preserved : goal.loop-round-preserved
loop-round-preserved c = record {
  pushed = one_list_made (round_of c.args.count) c.loop-round.commands c.push_round.new.commands c.loop-round.round
      c.loop-round.invariant.pushed c.in_ok-push_round.ensures;
}
