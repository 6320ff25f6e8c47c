use Rattle.std.proofs.Common.{◌≡◌, take}
use Rattle.object_law.specs.Found.{colours_read}
use Rattle.object_law.proofs.found.colours_read.Given as goal

-- those so far
abbrev pub invariant-loop-sync : goal.invariant-loop-sync
invariant-loop-sync l = l.colours ≡ colours_read (take l.sync-index l.syncs)
