use Rattle.std.proofs.Common.{◌≡◌, ◌≤◌, take, length, vec_len, vec_capacity}
use Rattle.column.specs.Columns.{items_under}
use Rattle.column.proofs.entered.items_of.Given as goal

-- the nodes so far, and the room for all
abbrev pub invariant-loop-at : goal.invariant-loop-at
invariant-loop-at l =
    (l.items.items ≡ items_under (take l.at l.keys) (take l.at l.nodes)) × (vec_len l.items ≡ l.at)
    × (length l.keys ≤ vec_capacity l.items)
