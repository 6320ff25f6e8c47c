use Rattle.log_client.proofs.Read.MergedItems.{MergedFirst}
use Rattle.log_client.proofs.merging.merged.Given as goal

-- the first items are merged
abbrev pub invariant-loop-item : goal.invariant-loop-item
invariant-loop-item l = MergedFirst l.yielded l.others l.all.items l.next
