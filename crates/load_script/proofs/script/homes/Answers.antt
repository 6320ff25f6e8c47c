use Rattle.std.proofs.Common.{[], refl}
use Rattle.load_script.specs.Generated.{home_by_turns}
use Rattle.load_script.proofs.Made.{one_made}
use Rattle.load_script.proofs.script.homes.Goals as goal

pub loop-client-preserved : goal.loop-client-preserved
loop-client-preserved c = record {
  pushed = one_made home_by_turns [] c.loop-client.homes c.push.new.self (home_by_turns c.loop-client.client) c.loop-client.client
      c.loop-client.invariant.pushed refl (c.in_ok-push.ensures).ok;
}
