use Rattle.std.proofs.Common.{◌≡◌, take}
use Rattle.run_picture.specs.Lanes.{carried_count}
use Rattle.run_picture.proofs.lanes.carried_count.Given as goal

-- the nodes that were carried so far
abbrev pub invariant-loop-entry : goal.invariant-loop-entry
invariant-loop-entry l = l.count ≡ carried_count l.region (take l.entry-index l.journal)
