use Rattle.std.proofs.Common.{◌≡◌, ◌<◌, ℕ, Some, slice_get, length, map}
use Rattle.chain_store.specs.declared.closed.ClosedRegion.{ClosedRegion}
use Rattle.chain_store.specs.Joined.{BothAlong, ended_past}
use Rattle.chain_store.proofs.ring_check.check_rings.Given as goal

-- what is known of the regions is as it was, and both ends of the rings between those so far were at hand
abbrev pub invariant-loop-own : goal.invariant-loop-own
invariant-loop-own l = record {
  same : map ended_past l.closed.items ≡ map ended_past l.initial.closed.items;
  along : (a b : ℕ) (x y : ClosedRegion) → a < b → b < l.own → slice_get l.initial.closed.items a ≡ Some x
      → slice_get l.initial.closed.items b ≡ Some y → BothAlong (length x.ends.items) a b x.ends.items y.ends.items;
}
