use Rattle.std.proofs.Common.{◌≡◌, ◌++◌, take}
use Rattle.log_client.proofs.merging.share_all.Given as goal

-- the first items are shared
abbrev pub invariant-loop-item : goal.invariant-loop-item
invariant-loop-item l = l.all.items ≡ l.fn.all.items ++ take l.item-index l.items
