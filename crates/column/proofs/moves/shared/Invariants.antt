use Rattle.std.proofs.Common.{◌≡◌, take}
use Rattle.column.proofs.moves.shared.Given as goal

-- the nodes so far
abbrev pub invariant-loop-item : goal.invariant-loop-item
invariant-loop-item l = l.copies.items ≡ take l.item-index l.items
