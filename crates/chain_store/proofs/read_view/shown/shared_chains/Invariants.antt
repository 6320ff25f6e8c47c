use Rattle.std.proofs.Common.{◌≡◌, take}
use Rattle.chain_store.proofs.read_view.shown.shared_chains.Given as goal

-- the chains so far
abbrev pub invariant-loop-items : goal.invariant-loop-items
invariant-loop-items l = l.copies.items ≡ take l.items-index l.chains
