use Rattle.std.proofs.Common.{◌≡◌, ◌≤◌, ℕ, Some, slice_get, length}
use Rattle.chain_store.specs.declared.hold.Hold.{Hold}
use Rattle.log_client.specs.Opening.{DealtHolds}
use Rattle.log_client.proofs.opening.deal.Given as goal

-- the holds that are left are the first ones; the others are dealt
abbrev pub invariant-loop-hold : goal.invariant-loop-hold
invariant-loop-hold l = record {
  left : (n : ℕ) (h : Hold) → slice_get l.holds.items n ≡ Some h → slice_get l.initial.holds.items n ≡ Some h;
  short : length l.holds.items ≤ length l.clients.items;
  dealt : DealtHolds l.initial.clients.items l.clients.items l.initial.holds.items (length l.holds.items);
}

abbrev pub decreases-loop-hold : goal.decreases-loop-hold
decreases-loop-hold l = length l.holds.items
