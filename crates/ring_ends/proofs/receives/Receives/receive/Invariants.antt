use Rattle.std.proofs.Common.{◌≡◌, ◌++◌, ◌+◌, ◌≤◌, List, length, vec_len, vec_capacity}
use Rattle.rtrb.specs.Ring.{known_items}
use Rattle.log_node.specs.Seen.{PlacedNode}
use Rattle.ring_ends.specs.Givens.{OfTheirHeads}
use Rattle.ring_ends.specs.Rings.{ring_received, got}
use Rattle.ring_ends.proofs.receives.Receives.receive.Given as goal

abbrev pub invariant-loop : goal.invariant-loop
invariant-loop l =
    (ring_received l.self ≡ ring_received l.initial.self)
    × (length (known_items l.self.consumer) + l.counter ≡ l.known)
    × (vec_len l.self.waiting + length (known_items l.self.consumer) ≤ vec_capacity l.self.waiting)
    × ((more : List PlacedNode) × (got l.self ≡ got l.initial.self ++ more)
    × (l.self.waiting.items ≡ l.initial.self.waiting.items ++ more) × OfTheirHeads l.region more)
