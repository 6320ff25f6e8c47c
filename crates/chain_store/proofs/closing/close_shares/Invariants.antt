use Rattle.std.proofs.Common.{length}
use Rattle.chain_store.specs.Desks.{HasDesks}
use Rattle.chain_store.proofs.closing.close_shares.Given as goal

-- a desk is left at each of the copies that are left
abbrev pub invariant-loop-share : goal.invariant-loop-share
invariant-loop-share g l = HasDesks l.shares.items l.desks.items

abbrev pub decreases-loop-share : goal.decreases-loop-share
decreases-loop-share g l = length l.shares.items
