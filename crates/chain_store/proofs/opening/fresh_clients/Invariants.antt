use Rattle.std.proofs.Common.{◌≡◌, length}
use Rattle.chain_store.specs.Openings.{AreEmpty}
use Rattle.chain_store.proofs.opening.fresh_clients.Given as goal

-- so many clients so far
abbrev pub invariant-loop-number : goal.invariant-loop-number
invariant-loop-number l = record {
  count : length l.all.items ≡ l.number;
  empty : AreEmpty l.all.items;
}
