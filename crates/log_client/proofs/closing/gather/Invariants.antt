use Rattle.log_client.specs.Leaving.{GatheredHolds}
use Rattle.log_client.proofs.closing.gather.Given as goal

abbrev pub invariant-loop-i : goal.invariant-loop-i
invariant-loop-i l = GatheredHolds l.initial.clients.items l.clients.items l.holds.items l.i
