use Rattle.chain_store.specs.Closings.{Gathered}
use Rattle.chain_store.proofs.closing.gather.Given as goal

abbrev pub invariant-loop-i : goal.invariant-loop-i
invariant-loop-i l = Gathered l.initial.clients.items l.clients.items l.passes.items l.i
