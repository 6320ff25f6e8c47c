use Rattle.std.proofs.Common.{◌≡◌, ◌≤◌, take, length, vec_len, vec_capacity}
use Rattle.column.proofs.reading.shared.Given as goal

-- the nodes so far, and the room for all
abbrev pub invariant-loop-item : goal.invariant-loop-item
invariant-loop-item l =
    (l.copies.items ≡ take l.item-index l.items) × (vec_len l.copies ≡ l.item-index)
    × (length l.items ≤ vec_capacity l.copies)
