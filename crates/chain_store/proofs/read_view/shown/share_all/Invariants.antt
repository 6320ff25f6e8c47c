use Rattle.std.proofs.Common.{◌≡◌, ◌++◌, take}
use Rattle.chain_store.proofs.read_view.shown.share_all.Given as goal

-- the nodes so far
abbrev pub invariant-loop-item : goal.invariant-loop-item
invariant-loop-item l = l.copies.items ≡ l.fn.copies.items ++ take l.item-index l.items
