use Rattle.std.proofs.Common.{◌≡◌, ℕ, Some, slice_get, length}
use Rattle.log_client.specs.declared.client.Client.{Client}
use Rattle.log_client.specs.Opening.{IsFresh, HaveNoHolds}
use Rattle.log_client.proofs.opening.fresh_clients.Given as goal

-- so many fresh clients, who have no holds
abbrev pub invariant-loop-number : goal.invariant-loop-number
invariant-loop-number l = record {
  count : length l.clients.items ≡ l.number;
  fresh : (n : ℕ) (c : Client) → slice_get l.clients.items n ≡ Some c → IsFresh l.shape n c;
  none : HaveNoHolds l.clients.items;
}
