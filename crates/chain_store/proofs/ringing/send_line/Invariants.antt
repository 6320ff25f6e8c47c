use Rattle.std.proofs.Common.{◌≡◌, ◌++◌, ◌+◌, List, length}
use Rattle.log_node.specs.Seen.{PlacedNode}
use Rattle.ring_ends.specs.Rings.{ring_sent, gone, room_of}
use Rattle.chain_store.specs.Rings.{AreNextOwn}
use Rattle.chain_store.proofs.ringing.send_line.Given as goal

abbrev pub invariant-loop : goal.invariant-loop
invariant-loop l =
    (ring_sent l.sends ≡ ring_sent l.fn.sends)
    × (room_of l.sends + l.counter ≡ l.end)
    × ((more : List PlacedNode) × (gone l.sends ≡ gone l.fn.sends ++ more)
    × AreNextOwn l.column (length (gone l.fn.sends)) more)
